-- The reader of a tag answers the tag, or the place of the first bad byte.
use Rattle.std.proofs.Common.{◌≡◌, ℕ, zero, suc, ◌<◌, ◌≤◌, true, false, List, [], ◌∷◌, length, get_or, take, Some, None, Err, Option, Result, sym, refl, ap, ◌∙◌, inl, inr, arith, MatchResult}
use Rattle.std.proofs.lemmas.Bool.Decides.{nat_tests}
use Rattle.std.proofs.lemmas.Bool.{cases_eq, cases_Bool, both_ways}
use Rattle.table.specs.declared.roles.Role.TheVariants.{Initial, Goal, StartNeeds, StartAdds, StartDeletes, EndNeeds, EndAdds, EndDeletes, Held}
use Rattle.text.specs.declared.tags.Tag.{Tag}
use Rattle.text.specs.declared.tags.Tag.TheVariants.{Sizes, Note, Close}
use Rattle.text.specs.Tags.{tag_text, allows, TagAt, tag_of, opens, if_allowed, tag_at}
use Rattle.text.specs.Texts.{Viable, Stuck, Any}
use Rattle.text.proofs.Bad.{bad-here, bad-end, bad-step}
use Rattle.text.proofs.Parts.{Coded}
use Rattle.text.proofs.Joins.{coded-by-length}

pub tag-long : (t : Tag) → length (tag_text t) ≡ 2
tag-long Sizes = refl
tag-long (Note Initial) = refl
tag-long (Note Goal) = refl
tag-long (Note StartNeeds) = refl
tag-long (Note StartAdds) = refl
tag-long (Note StartDeletes) = refl
tag-long (Note EndNeeds) = refl
tag-long (Note EndAdds) = refl
tag-long (Note EndDeletes) = refl
tag-long (Note Held) = refl
tag-long Close = refl

abbrev read_tag : List ℕ → Option Tag
read_tag s = tag_of (get_or s 0 0) (get_or s 1 0)

-- the letters of a tag are read as that tag
tag_read : (t : Tag) → read_tag (tag_text t) ≡ Some t
tag_read Sizes = refl
tag_read (Note Initial) = refl
tag_read (Note Goal) = refl
tag_read (Note StartNeeds) = refl
tag_read (Note StartAdds) = refl
tag_read (Note StartDeletes) = refl
tag_read (Note EndNeeds) = refl
tag_read (Note EndAdds) = refl
tag_read (Note EndDeletes) = refl
tag_read (Note Held) = refl
tag_read Close = refl

tag-of-text : (t : Tag) (a b : ℕ) (u : List ℕ) → a ∷ b ∷ u ≡ tag_text t → tag_of a b ≡ Some t
tag-of-text t a b u e = ap read_tag e ∙ tag_read t

-- what is read as a tag are its letters
text-of-tag : (t : Tag) (a b : ℕ) → tag_of a b ≡ Some t → a ∷ b ∷ [] ≡ tag_text t
text-of-tag Sizes a b e = let h : (a ≡ 83) × (b ≡ 90) = grind (arith, nat_tests) in rw (h.0, h.1)
text-of-tag (Note Initial) a b e = let h : (a ≡ 73) × (b ≡ 78) = grind (arith, nat_tests) in rw (h.0, h.1)
text-of-tag (Note Goal) a b e = let h : (a ≡ 71) × (b ≡ 79) = grind (arith, nat_tests) in rw (h.0, h.1)
text-of-tag (Note StartNeeds) a b e = let h : (a ≡ 83) × (b ≡ 78) = grind (arith, nat_tests) in rw (h.0, h.1)
text-of-tag (Note StartAdds) a b e = let h : (a ≡ 83) × (b ≡ 65) = grind (arith, nat_tests) in rw (h.0, h.1)
text-of-tag (Note StartDeletes) a b e = let h : (a ≡ 83) × (b ≡ 68) = grind (arith, nat_tests) in rw (h.0, h.1)
text-of-tag (Note EndNeeds) a b e = let h : (a ≡ 69) × (b ≡ 78) = grind (arith, nat_tests) in rw (h.0, h.1)
text-of-tag (Note EndAdds) a b e = let h : (a ≡ 69) × (b ≡ 65) = grind (arith, nat_tests) in rw (h.0, h.1)
text-of-tag (Note EndDeletes) a b e = let h : (a ≡ 69) × (b ≡ 68) = grind (arith, nat_tests) in rw (h.0, h.1)
text-of-tag (Note Held) a b e = let h : (a ≡ 72) × (b ≡ 68) = grind (arith, nat_tests) in rw (h.0, h.1)
text-of-tag Close a b e = let h : (a ≡ 90) × (b ≡ 90) = grind (arith, nat_tests) in rw (h.0, h.1)

-- a tag that may stand here begins with a letter that opens one
tag-opens : (t : Tag) (f : ℕ) → allows f t ≡ true → opens (get_or (tag_text t) 0 0) f ≡ true
tag-opens Sizes f h = grind (arith, nat_tests)
tag-opens (Note Initial) f h = grind (arith, nat_tests)
tag-opens (Note Goal) f h = grind (arith, nat_tests)
tag-opens (Note StartNeeds) f h = grind (arith, nat_tests)
tag-opens (Note StartAdds) f h = grind (arith, nat_tests)
tag-opens (Note StartDeletes) f h = grind (arith, nat_tests)
tag-opens (Note EndNeeds) f h = grind (arith, nat_tests)
tag-opens (Note EndAdds) f h = grind (arith, nat_tests)
tag-opens (Note EndDeletes) f h = grind (arith, nat_tests)
tag-opens (Note Held) f h = grind (arith, nat_tests)
tag-opens Close f h = grind (arith, nat_tests)

opens-text : (t : Tag) (f a : ℕ) (u : List ℕ) → allows f t ≡ true → a ∷ u ≡ tag_text t → opens a f ≡ true
opens-text t f a u h e = ap (λ s. opens (get_or s 0 0) f) e ∙ tag-opens t f h

-- a letter that opens a tag begins one that may stand here
text-opens : (f a : ℕ) → opens a f ≡ true → (t : Tag) × (b : ℕ) × (allows f t ≡ true) × (a ∷ b ∷ [] ≡ tag_text t)
text-opens f a h =
    elim (cases_eq a 83) [
      | inl e ↦ elim (cases_eq f 0) [ inl z ↦ (Sizes, 90, grind (arith, nat_tests), rw e) | inr z ↦ (Note StartDeletes, 68, grind (arith, nat_tests), rw e) ]
      | inr n1 ↦
          elim (cases_eq a 73) [
            | inl e ↦ (Note Initial, 78, grind (arith, nat_tests), rw e)
            | inr n2 ↦
                elim (cases_eq a 71) [
                  | inl e ↦ (Note Goal, 79, grind (arith, nat_tests), rw e)
                  | inr n3 ↦
                      elim (cases_eq a 69) [
                        | inl e ↦ (Note EndDeletes, 68, grind (arith, nat_tests), rw e)
                        | inr n4 ↦
                            elim (cases_eq a 72) [
                              | inl e ↦ (Note Held, 68, grind (arith, nat_tests), rw e)
                              | inr n5 ↦
                                  elim (cases_eq a 90) [
                                    | inl e ↦ (Close, 90, grind (arith, nat_tests), rw e)
                                    | inr n6 ↦
                                        absurd (let z : opens a f ≡ false = grind (arith, nat_tests) in both_ways (opens a f) z h)
                                  ]
                            ]
                      ]
                ]
          ]
    ]

-- a tag may stand everywhere
some-tag : (f : ℕ) → Viable (Any (TagAt f)) []
some-tag zero = (tag_text Sizes, (Sizes, (refl, refl)))
some-tag (suc f) = (tag_text Close, (Close, ((let e : allows (suc f) Close ≡ true = grind (arith, nat_tests) in e), refl)))

no-tag : (f : ℕ) (s : List ℕ) → length s < 2 → Any (TagAt f) s → ⊥
no-tag f s h l = omega (arith, ap length l.1.1, tag-long l.0)

stuck-first : (f a : ℕ) (s : List ℕ) → opens a f ≡ false → Stuck (Any (TagAt f)) (a ∷ s) 0
stuck-first f a s h = (
  bad-here (Any (TagAt f)) a s (some-tag f) (λ q l. both_ways (opens a f) h (opens-text l.0 f a q l.1.0 l.1.1)),
  (λ l. no-tag f [] (omega arith) l),
)

-- some tag goes on after the first letter
goes_on : (f a : ℕ) → opens a f ≡ true → Viable (λ t. Any (TagAt f) (a ∷ t)) []
goes_on f a h = let x = text-opens f a h in (x.1 ∷ [], (x.0, (x.2, x.3)))

stuck-short : (f a : ℕ) → opens a f ≡ true → Stuck (Any (TagAt f)) (a ∷ []) 1
stuck-short f a h = (
  bad-step (Any (TagAt f)) a [] 0 (bad-end (λ t. Any (TagAt f) (a ∷ t)) (goes_on f a h) (λ l. no-tag f (a ∷ []) (omega arith) l)),
  (λ l. no-tag f (a ∷ []) (omega arith) l),
)

stuck-second : (f a b : ℕ) (s : List ℕ) → opens a f ≡ true → ((t : Tag) → allows f t ≡ true → tag_of a b ≡ Some t → ⊥) → Stuck (Any (TagAt f)) (a ∷ b ∷ s) 1
stuck-second f a b s h none = (
  bad-step (Any (TagAt f)) a (b ∷ s) 0 (bad-here (λ t. Any (TagAt f) (a ∷ t)) b s (goes_on f a h) (λ q l. none l.0 l.1.0 (tag-of-text l.0 a b q l.1.1))),
  (λ l. no-tag f (a ∷ []) (omega arith) l),
)

abbrev pub TagLaw : ℕ → List ℕ → Result Tag ℕ → Type 0
TagLaw f s r = MatchResult r (λ t. (2 ≤ length s) × TagAt f t (take 2 s)) (λ e. Stuck (Any (TagAt f)) s e)

some-once : (x y : Tag) → Some x ≡ Some y → x ≡ y
some-once x y e = cc

never : (t : Tag) → None ≡ Some t → ⊥
never t e = cc

both-letters : (f a b : ℕ) (s : List ℕ) (o : Option Tag) → opens a f ≡ true → tag_of a b ≡ o → TagLaw f (a ∷ b ∷ s) (if_allowed f o)
both-letters f a b s None h e = stuck-second f a b s h (λ t g i. never t (sym e ∙ i))
both-letters f a b s (Some t) h e =
    elim (cases_Bool (allows f t)) [
      | inl g ↦ rw g (omega arith, (g, text-of-tag t a b e))
      | inr g ↦ rw g (stuck-second f a b s h (λ u k i. both_ways (allows f t) g (ap (allows f) (some-once t u (sym e ∙ i)) ∙ k)))
    ]

pub tag-law : (f : ℕ) (s : List ℕ) → TagLaw f s (tag_at f s)
tag-law f [] = (bad-end (Any (TagAt f)) (some-tag f) (λ l. no-tag f [] (omega arith) l), (λ l. no-tag f [] (omega arith) l))
tag-law f (a ∷ s) = elim (cases_Bool (opens a f)) [ inl e ↦ opened s e | inr e ↦ (let p : tag_at f (a ∷ s) ≡ Err 0 = grind (arith, nat_tests) in rw p (stuck-first f a s e)) ]
  where
    opened : (s : List ℕ) → opens a f ≡ true → TagLaw f (a ∷ s) (tag_at f (a ∷ s))
    opened [] e = let p : tag_at f (a ∷ []) ≡ Err 1 = grind (arith, nat_tests) in rw p (stuck-short f a e)
    opened (b ∷ s) e = let p : tag_at f (a ∷ b ∷ s) ≡ if_allowed f (tag_of a b) = grind (arith, nat_tests) in rw p (both-letters f a b s (tag_of a b) e refl)

pub same_tag : (x y : Tag) → tag_text x ≡ tag_text y → x ≡ y
same_tag x y e = some-once x y (sym (tag_read x) ∙ ap read_tag e ∙ tag_read y)

pub coded-tag : (f : ℕ) → Coded (TagAt f)
coded-tag f = coded-by-length (TagAt f) 2 (λ t s h. ap length h.1 ∙ tag-long t) (λ x y a p q. same_tag x y (sym p.1 ∙ q.1))
