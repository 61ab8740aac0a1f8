-- What every table keeps, it keeps over a granted size and a granted note.
-- Assumes nothing.
use Rattle.std.proofs.Common.{◌≡◌, ℕ, ◌<◌, ◌≤◌, Bool, true, false, cond, not, ◌&&◌, ◌||◌, eqb, leb, ◌⊎◌, Ok, Err, Result, sym, refl, ◌∙◌, subst, inl, inr, arith}
use Rattle.std.proofs.lemmas.Bool.{eqb-true, eq-eqb, leb-true, and_parts, and_left, and_from, not-false}
use Rattle.encoding.specs.Ranges.{some}
use Rattle.encoding.proofs.Ranges.{or-false-parts}
use Rattle.table.specs.declared.faults.SizeFault.TheVariants.{OutOfLimits, AfterNote}
use Rattle.table.specs.declared.faults.NoteFault.TheVariants.{ActionOutOfLimits, FactOutOfLimits, Repeated, Clashes}
use Rattle.table.specs.declared.roles.Role.{Role}
use Rattle.table.specs.declared.roles.Role.TheVariants.{StartAdds, StartDeletes, EndAdds, EndDeletes, Held}
use Rattle.table.specs.Roles.{actionless, same_role}
use Rattle.table.specs.Entries.{Entries, from, sized, taken, placed, implies, some_note, Sizes, Within, Never, Apart}
use Rattle.table.specs.Calls.{size_answer, clashing, role_answer, granted}
use Rattle.table.proofs.Numbers.{same-role, some_of, some-role, or_left, or_right}

passes : {F : Type 0} (b : Bool) (e : F) (x : Result (Unit {0}) F) → cond b (Err e) x ≡ Ok tt → (b ≡ false) × (x ≡ Ok tt)
passes true e x h = absurd (cc)
passes false e x h = (refl, h)

-- what a granted note meets
pub record Fit (E : Entries) (r : Role) (a p : ℕ) : Type 0 where
  pub inside : placed E.facts E.actions r a p ≡ true
  pub clear : clashing E r a p ≡ false

pub fit : (E : Entries) (r : Role) (a p : ℕ) → role_answer E r a p ≡ Ok tt → Fit E r a p
fit E r a p h =
    let h₁ = passes (not (taken E.actions r a)) ActionOutOfLimits _ h in
    let h₂ = passes (not (from 1 E.facts p)) FactOutOfLimits _ h₁.1 in
    let h₃ = passes (E.noted r a p) Repeated _ h₂.1 in
    let h₄ = passes (clashing E r a p) Clashes (Ok tt) h₃.1 in
    record {
      inside = and_from (taken E.actions r a) (from 1 E.facts p) (not-false _ h₁.0) (not-false _ h₂.0);
      clear = h₄.0;
    }

-- whether two notes are one
abbrev pub same : Role → ℕ → ℕ → Role → ℕ → ℕ → Bool
same r a p s b q = same_role s r && (eqb b a && eqb q p)

pub same_true : (r : Role) (a p : ℕ) (s : Role) (b q : ℕ) → same r a p s b q ≡ true → (s ≡ r) × (b ≡ a) × (q ≡ p)
same_true r a p s b q e =
    let x = and_parts (same_role s r) (eqb b a && eqb q p) e in
    let y = and_parts (eqb b a) (eqb q p) x.1 in
    (same-role s r x.0, eqb-true b a y.0, eqb-true q p y.1)

-- the notes with one more
abbrev pub more : (Role → ℕ → ℕ → Bool) → Role → ℕ → ℕ → Role → ℕ → ℕ → Bool
more noted r a p s b q = same r a p s b q || noted s b q

pub within_more : (f n : ℕ) (noted : Role → ℕ → ℕ → Bool) (r : Role) (a p : ℕ) → placed f n r a p ≡ true → Within f n noted → Within f n (more noted r a p)
within_more f n noted r a p h w s b q = go (same r a p s b q) refl where
  go : (t : Bool) → same r a p s b q ≡ t → implies (t || noted s b q) (placed f n s b q) ≡ true
  go true e = let m = same_true r a p s b q e in cc
  go false e = w s b q

never-more : (noted : Role → ℕ → ℕ → Bool) (r : Role) (a p : ℕ) (t u : Role) → (t ≡ u → ⊥) → (r ≡ t → noted u a p ≡ false) → (r ≡ u → noted t a p ≡ false)
    → Never noted t u → Never (more noted r a p) t u
never-more noted r a p t u ne ht hu old b q = go (same r a p t b q) (same r a p u b q) refl refl where
  go : (x y : Bool) → same r a p t b q ≡ x → same r a p u b q ≡ y → ((x || noted t b q) && (y || noted u b q)) ≡ false
  go true true e k = absurd (ne ((same_true r a p t b q e).0 ∙ sym (same_true r a p u b q k).0))
  go true false e k = let m = same_true r a p t b q e in let h = ht (sym m.0) in cc
  go false true e k = let m = same_true r a p u b q k in let h : noted t b q ≡ false = (let h = hu (sym m.0) in cc) in and_left (noted t b q) true h
  go false false e k = old b q

distinct : (t u : Role) → same_role t u ≡ false → t ≡ u → ⊥
distinct t u h e = let k : same_role t t ≡ true = eq-eqb _ _ refl in cc

-- each clash that a note is refused for
pub apart_more : (E : Entries) (r : Role) (a p : ℕ) → clashing E r a p ≡ false → Apart E.noted → Apart (more E.noted r a p)
apart_more E r a p h old = (
  never-more E.noted r a p StartAdds StartDeletes (distinct StartAdds StartDeletes refl)
      (λ e. subst (λ (s : Role). clashing E s a p ≡ false) e h)
      (λ e. (or-false-parts _ _ (subst (λ (s : Role). clashing E s a p ≡ false) e h)).0) old.0,
  never-more E.noted r a p EndAdds EndDeletes (distinct EndAdds EndDeletes refl)
      (λ e. subst (λ (s : Role). clashing E s a p ≡ false) e h)
      (λ e. subst (λ (s : Role). clashing E s a p ≡ false) e h) old.1,
  never-more E.noted r a p StartDeletes Held (distinct StartDeletes Held refl)
      (λ e. (or-false-parts _ _ (subst (λ (s : Role). clashing E s a p ≡ false) e h)).1)
      (λ e. subst (λ (s : Role). clashing E s a p ≡ false) e h) old.2,
)

-- a note in the limits is found among all notes

pub between : (low high n : ℕ) → from low high n ≡ true → (low ≤ n) × (n ≤ high)
between low high n h = let x = and_parts (leb low n) (leb n high) h in (leb-true low n x.0, leb-true n high x.1)

found : (noted : Role → ℕ → ℕ → Bool) (r : Role) (a p : ℕ) → (a ≡ 0) ⊎ ((1 ≤ a) × (a ≤ 16)) → 1 ≤ p → p ≤ 32 → noted r a p ≡ true → some_note noted ≡ true
unfolding some_note
found noted r a p (inl z) l u h =
    some-role (λ s. some 32 (λ q. noted s 0 q || some 16 (λ b. noted s b q))) r
    (some_of 32 (λ q. noted r 0 q || some 16 (λ b. noted r b q)) p l u (or_left (noted r 0 p) _ (subst (λ b. noted r b p ≡ true) z h)))
found noted r a p (inr z) l u h =
    some-role (λ s. some 32 (λ q. noted s 0 q || some 16 (λ b. noted s b q))) r
    (some_of 32 (λ q. noted r 0 q || some 16 (λ b. noted r b q)) p l u (or_right (noted r 0 p) _ (some_of 16 (λ b. noted r b p) a z.0 z.1 h)))

action-in : (n : ℕ) (r : Role) (a : ℕ) → n ≤ 16 → taken n r a ≡ true → (a ≡ 0) ⊎ ((1 ≤ a) × (a ≤ 16))
action-in n r a u h = go (actionless r) h where
  go : (b : Bool) → cond b (eqb a 0) (from 1 n a) ≡ true → (a ≡ 0) ⊎ ((1 ≤ a) × (a ≤ 16))
  go true e = inl (eqb-true a 0 e)
  go false e = let x = between 1 n a e in inr (omega arith)

pub sizes-in : (f n : ℕ) → sized f n ≡ true → Sizes f n
sizes-in f n h =
    let x = and_parts (from 1 32 f) (from 1 16 n) h in
    let y = between 1 32 f x.0 in let z = between 1 16 n x.1 in (y.0, y.1, z.0, z.1)

-- what a granted size meets
pub size-fit : (E : Entries) (f n : ℕ) → size_answer E f n ≡ Ok tt → Sizes f n × (some_note E.noted ≡ false)
size-fit E f n h =
    let x = passes (not (sized f n)) OutOfLimits _ h in
    let y = passes (some_note E.noted) AfterNote (Ok tt) x.1 in
    (sizes-in f n (not-false _ x.0), y.0)

pub some-note : (f n : ℕ) (noted : Role → ℕ → ℕ → Bool) (r : Role) (a p : ℕ) → Sizes f n → placed f n r a p ≡ true → noted r a p ≡ true → some_note noted ≡ true
some-note f n noted r a p s h k =
    let x = and_parts (taken n r a) (from 1 f p) h in
    let y = between 1 f p x.1 in
    found noted r a p (action-in n r a s.3 x.0) y.0 (omega arith) k

-- there is a place for a note in the limits
pub in-places : (f n : ℕ) (r : Role) (a p : ℕ) → Sizes f n → placed f n r a p ≡ true → (a < 17) × (p < 33)
in-places f n r a p s h = go (action-in n r a s.3 (and_parts (taken n r a) (from 1 f p) h).0) where
  go : (a ≡ 0) ⊎ ((1 ≤ a) × (a ≤ 16)) → (a < 17) × (p < 33)
  go (inl e) = let y = between 1 f p (and_parts (taken n r a) (from 1 f p) h).1 in omega arith
  go (inr e) = let y = between 1 f p (and_parts (taken n r a) (from 1 f p) h).1 in omega arith

pub counted-more : (f n : ℕ) (noted : Role → ℕ → ℕ → Bool) (r : Role) (a p : ℕ) → Sizes f n → placed f n r a p ≡ true → true ≡ some_note (more noted r a p)
counted-more f n noted r a p s h =
    sym (some-note f n (more noted r a p) r a p s h (or_left (same r a p r a p) (noted r a p)
    (and_from (same_role r r) (eqb a a && eqb p p) (eq-eqb _ _ refl) (and_from (eqb a a) (eqb p p) (eq-eqb a a refl) (eq-eqb p p refl)))))

-- before the first note all sizes will do
pub within-sized : (f n g m : ℕ) (noted : Role → ℕ → ℕ → Bool) → Sizes f n → some_note noted ≡ false → Within f n noted → Within g m noted
within-sized f n g m noted s none w r a p = go (noted r a p) refl where
  go : (b : Bool) → noted r a p ≡ b → implies b (placed g m r a p) ≡ true
  go true e =
      let h : placed f n r a p ≡ true = (let k = w r a p in subst (λ x. implies x (placed f n r a p) ≡ true) e k) in
      let t = some-note f n noted r a p s h e in absurd (cc)
  go false e = refl

-- answers and what follows them

pub refused : {F : Type 0} (x : Result (Unit {0}) F) (e : F) (E U : Entries) → Err e ≡ x → E ≡ granted x E U
refused x e E U h = subst (λ y. E ≡ granted y E U) h refl

pub done : {F : Type 0} (x : Result (Unit {0}) F) (E U V : Entries) → Ok tt ≡ x → V ≡ U → V ≡ granted x E U
done x E U V h k = k ∙ subst (λ y. U ≡ granted y E U) h refl
