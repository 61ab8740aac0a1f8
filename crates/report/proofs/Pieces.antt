-- Pieces that a text of fixed room took, one after another, are the text.
use Rattle.std.proofs.Common.{ℕ, List, [], ◌∷◌, ◌++◌, subst, sym, ap, ◌∙◌, append-nil, append_assoc}
use Rattle.std.specs.List.{concat, FoldsTo}
use Rattle.std.specs.Fmt.{WritesInCalls}
use Rattle.std.specs.Fmt.InlineText.{AppendsIfIntact, IsIntact, inline_text}
use Rattle.std.specs.declared.fmt.InlineText.{InlineText}

module _ {N : ℕ} where
  pieces : (s : InlineText N) (parts : List (List ℕ)) (t : InlineText N) → FoldsTo AppendsIfIntact s parts t → AppendsIfIntact s (concat parts) t
  pieces s [] t same intact = (subst IsIntact same intact, ap inline_text (sym same) ∙ sym (append-nil (inline_text s)))
  pieces s (x ∷ parts) t calls intact =
      let first = calls.1 intact in
      let rest = pieces calls.0 parts t calls.2 first.0 in
      (rest.0, rest.1 ∙ ap (λ l. l ++ concat parts) first.1 ∙ append_assoc (inline_text s) x (concat parts))

  pub pieces-appended : (s : InlineText N) (bs : List ℕ) (t : InlineText N) → WritesInCalls AppendsIfIntact s bs t → AppendsIfIntact s bs t
  pieces-appended s bs t wrote = subst (λ l. AppendsIfIntact s l t) wrote.whole (pieces s wrote.parts t wrote.calls)
