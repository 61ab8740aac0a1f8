-- FirstBad goes from what is left of a text to the text.
use Rattle.std.proofs.Common.{◌≡◌, ℕ, suc, ◌<◌, ◌≤◌, List, [], ◌∷◌, ◌++◌, length, take, drop, sym, refl, ap, ◌∙◌, subst, inl, inr, append_assoc, arith}
use Rattle.std.proofs.lemmas.List.{take-append-drop, take-take}
use Rattle.std.proofs.lemmas.Bool.{cases_order}
use Rattle.text.specs.Texts.{Viable, FirstBad}

pub bad-step : (L : List ℕ → Type 0) (b : ℕ) (bs : List ℕ) (k : ℕ) → FirstBad (λ t. L (b ∷ t)) bs k → FirstBad L (b ∷ bs) (suc k)
bad-step L b bs k h =
    (h.0, elim h.1 [ inl x ↦ inl ((omega arith), x.1) | inr y ↦ inr (ap suc y.0, y.1) ])

pub bad-here : (L : List ℕ → Type 0) (b : ℕ) (bs : List ℕ) → Viable L [] → ((q : List ℕ) → L (b ∷ q) → ⊥) → FirstBad L (b ∷ bs) 0
bad-here L b bs v no_more = (v, inl ((omega arith), (λ w. no_more w.0 w.1)))

pub bad-end : (L : List ℕ → Type 0) → Viable L [] → (L [] → ⊥) → FirstBad L [] 0
bad-end L v h = (v, inr (refl, h))

front : (s : List ℕ) (k m : ℕ) → k < m → take (suc k) s ++ drop (suc k) (take m s) ≡ take m s
front s k m h = ap (λ x. x ++ drop (suc k) (take m s)) (sym (take-take (suc k) m s h)) ∙ take-append-drop (suc k) (take m s)

-- the same language, said another way
pub bad-same : (L M : List ℕ → Type 0) (s : List ℕ) (k : ℕ) → ((t : List ℕ) → L t → M t) → ((t : List ℕ) → M t → L t) → FirstBad L s k → FirstBad M s k
bad-same L M s k f g h = (
  (h.0.0, f _ h.0.1),
  elim h.1 [ inl x ↦ inl (x.0, (λ w. x.1 (w.0, g _ w.1))) | inr y ↦ inr (y.0, (λ m. y.1 (g s m))) ],
)

-- there is one first bad byte
bad-within : (L : List ℕ → Type 0) (s : List ℕ) (k : ℕ) → FirstBad L s k → k ≤ length s
bad-within L s k b = elim b.1 [ inl x ↦ omega (arith, x.0) | inr y ↦ omega (arith, y.0) ]

bad-below : (L : List ℕ → Type 0) (s : List ℕ) (k m : ℕ) → k < m → FirstBad L s k → FirstBad L s m → ⊥
bad-below L s k m h b d =
    let w : m ≤ length s = bad-within L s m d in
    elim b.1 [
      | inl x ↦ (let P : List ℕ → Type 0 = L in
          x.1 (drop (suc k) (take m s) ++ d.0.0, subst P (sym (sym (append_assoc (take (suc k) s) (drop (suc k) (take m s)) d.0.0) ∙ ap (λ t. t ++ d.0.0) (front s k m h))) d.0.1))
      | inr y ↦ omega (arith, y.0)
    ]

pub bad-once : (L : List ℕ → Type 0) (s : List ℕ) (k m : ℕ) → FirstBad L s k → FirstBad L s m → k ≡ m
bad-once L s k m b d =
    elim (cases_order k m) [ inl e ↦ e | inr x ↦ elim x [ inl h ↦ absurd (bad-below L s k m h b d) | inr h ↦ absurd (bad-below L s m k h d b) ] ]
