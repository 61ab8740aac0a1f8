-- Lines are a prefix code: no line begins another, and each is read in one way.
use Rattle.std.proofs.Common.{◌≡◌, ℕ, Bool, true, false, List, [], ◌∷◌, ◌++◌, length, get_or, Some, None, codes, sym, refl, ap, ◌∙◌, subst, append_assoc, arith}
use Rattle.table.specs.declared.roles.Role.{Role}
use Rattle.table.specs.Roles.{actionless}
use Rattle.text.specs.declared.lines.Line.TheVariants.{Sizes, Note}
use Rattle.text.specs.declared.tags.Tag.{Tag}
use Rattle.text.specs.declared.tags.Tag.TheVariants.{Sizes as SizesTag, Note as NoteTag, Close}
use Rattle.text.specs.Documents.{note_text, sizes_text}
use Rattle.text.specs.Reading.{Row, NoteRest, LineAt}
use Rattle.text.specs.Tags.{tag_text}
use Rattle.text.proofs.Joins.{same_parts}
use Rattle.text.proofs.Letters.{tag-long, same_tag}
use Rattle.text.proofs.Parts.{Coded}
use Rattle.text.proofs.Rows.{note-one, note-two, sizes-three}
use Rattle.text.proofs.Steps.{coded-number}

pair : {X Y : Type 0} (a c : X) (b d : Y) → a ≡ c → b ≡ d → ◌≡◌ {A = X × Y} (a, b) (c, d)
pair a c b d p q = ap (λ x. (x, b)) p ∙ ap (λ y. (c, y)) q

-- rows of as many numbers
row-once : (ns ms a b u v : List ℕ) → length ns ≡ length ms → Row ns a → Row ms b → a ++ u ≡ b ++ v → (ns ≡ ms) × (a ≡ b)
row-once [] [] a b u v l p q e = (refl, p ∙ sym q)
row-once [] (m ∷ ms) a b u v l p q e = absurd (omega arith)
row-once (n ∷ ns) [] a b u v l p q e = absurd (omega arith)
row-once (n ∷ ns) (m ∷ ms) a b u v l p q e =
    let f : p.0 ++ (p.1 ++ u) ≡ q.0 ++ (q.1 ++ v) =
    sym (append_assoc p.0 p.1 u) ∙ sym (ap (λ t. t ++ u) p.2) ∙ e ∙ ap (λ t. t ++ v) q.2 ∙ append_assoc q.0 q.1 v in
    let h = coded-number n m p.0 q.0 (p.1 ++ u) (q.1 ++ v) p.3 q.3 f in
    let g : p.1 ++ u ≡ q.1 ++ v = (same_parts p.0 q.0 (p.1 ++ u) (q.1 ++ v) (ap length h.1) f).1 in
    let k = row-once ns ms p.1 q.1 u v (omega arith) p.4 q.4 g in
    (ap (λ x. x ∷ ns) h.0 ∙ ap (λ xs. m ∷ xs) k.0, p.2 ∙ ap (λ t. t ++ p.1) h.1 ∙ ap (λ t. q.0 ++ t) k.1 ∙ sym q.2)

coded-note : (b : Bool) → Coded (NoteRest b)
coded-note true x y a b u v p q e =
    let c = row-once (x.1 ∷ []) (y.1 ∷ []) a b u v refl (note-one x a p) (note-one y b q) e in
    (pair x.0 y.0 x.1 y.1 (p.0.0 ∙ sym q.0.0) (ap (λ w. get_or w 0 0) c.0), c.1)
coded-note false x y a b u v p q e =
    let c = row-once (x.0 ∷ x.1 ∷ []) (y.0 ∷ y.1 ∷ []) a b u v refl (note-two x a p) (note-two y b q) e in
    (pair x.0 y.0 x.1 y.1 (ap (λ w. get_or w 0 0) c.0) (ap (λ w. get_or w 1 0) c.0), c.1)

-- two lines that begin alike have one tag
tags-meet : (t w : Tag) (a b r s u v : List ℕ) → a ≡ tag_text t ++ r → b ≡ tag_text w ++ s → a ++ u ≡ b ++ v → (t ≡ w) × (r ++ u ≡ s ++ v)
tags-meet t w a b r s u v p q e =
    let f : tag_text t ++ (r ++ u) ≡ tag_text w ++ (s ++ v) =
    sym (append_assoc (tag_text t) r u) ∙ sym (ap (λ x. x ++ u) p) ∙ e ∙ ap (λ x. x ++ v) q ∙ append_assoc (tag_text w) s v in
    let h = same_parts (tag_text t) (tag_text w) (r ++ u) (s ++ v) (tag-long t ∙ sym (tag-long w)) f in
    (same_tag t w h.0, h.1)

lines-meet : (t w : Tag) (a b r s : List ℕ) → a ≡ tag_text t ++ r → b ≡ tag_text w ++ s → t ≡ w → r ≡ s → a ≡ b
lines-meet t w a b r s p q e f = p ∙ ap (λ x. tag_text x ++ r) e ∙ ap (λ x. tag_text w ++ x) f ∙ sym q

sizes-note : (r : Role) → SizesTag ≡ NoteTag r → ⊥
sizes-note r e = cc

sizes-close : SizesTag ≡ Close → ⊥
sizes-close e = cc

note-close : (r : Role) → NoteTag r ≡ Close → ⊥
note-close r e = cc

one-role : (r k : Role) → NoteTag r ≡ NoteTag k → k ≡ r
one-role r k e = cc

pub coded-line : (f : ℕ) → Coded (LineAt f)
coded-line f None None a b u v p q e = (refl, p.1 ∙ sym q.1)
coded-line f (Some (Sizes x y z)) (Some (Sizes i j k)) a b u v p q e =
    let h = tags-meet SizesTag SizesTag a b (sizes_text x y z) (sizes_text i j k) u v p.2 q.2 e in
    let c = row-once (x ∷ y ∷ z ∷ []) (i ∷ j ∷ k ∷ []) (sizes_text x y z) (sizes_text i j k) u v refl
    (sizes-three x y z (sizes_text x y z) p.1.0 p.1.1 p.1.2 refl) (sizes-three i j k (sizes_text i j k) q.1.0 q.1.1 q.1.2 refl) h.1 in
    (ap (λ w. Some (Sizes (get_or w 0 0) (get_or w 1 0) (get_or w 2 0))) c.0, lines-meet SizesTag SizesTag a b (sizes_text x y z) (sizes_text i j k) p.2 q.2 refl c.1)
coded-line f (Some (Note r x y)) (Some (Note k i j)) a b u v p q e =
    let h = tags-meet (NoteTag r) (NoteTag k) a b (note_text (actionless r) (x, y)) (note_text (actionless k) (i, j)) u v p.2 q.2 e in
    let o : k ≡ r = one-role r k h.0 in
    let P : Role → Type 0 = λ m. NoteRest (actionless m) (i, j) (note_text (actionless k) (i, j)) in
    let c = coded-note (actionless r) (x, y) (i, j) (note_text (actionless r) (x, y)) (note_text (actionless k) (i, j)) u v (p.1, refl) (subst P o (q.1, refl)) h.1 in (
      ap (λ w. Some (Note r w.0 w.1)) c.0 ∙ ap (λ m. Some (Note m i j)) (sym o),
      lines-meet (NoteTag r) (NoteTag k) a b (note_text (actionless r) (x, y)) (note_text (actionless k) (i, j)) p.2 q.2 h.0 c.1,
    )
coded-line f None (Some (Sizes i j k)) a b u v p q e = absurd (sizes-close (sym (tags-meet Close SizesTag a b (codes "\n") (sizes_text i j k) u v p.1 q.2 e).0))
coded-line f None (Some (Note k i j)) a b u v p q e = absurd (note-close k (sym (tags-meet Close (NoteTag k) a b (codes "\n") (note_text (actionless k) (i, j)) u v p.1 q.2 e).0))
coded-line f (Some (Sizes x y z)) None a b u v p q e = absurd (sizes-close (tags-meet SizesTag Close a b (sizes_text x y z) (codes "\n") u v p.2 q.1 e).0)
coded-line f (Some (Note r x y)) None a b u v p q e = absurd (note-close r (tags-meet (NoteTag r) Close a b (note_text (actionless r) (x, y)) (codes "\n") u v p.2 q.1 e).0)
coded-line f (Some (Sizes x y z)) (Some (Note k i j)) a b u v p q e = absurd (sizes-note k (tags-meet SizesTag (NoteTag k) a b (sizes_text x y z) (note_text (actionless k) (i, j)) u v p.2 q.2 e).0)
coded-line f (Some (Note r x y)) (Some (Sizes i j k)) a b u v p q e = absurd (sizes-note r (sym (tags-meet (NoteTag r) SizesTag a b (note_text (actionless r) (x, y)) (sizes_text i j k) u v p.2 q.2 e).0))
