-- The numbers 1 .. n, as `1..=n` gives them, and the lowest of them at which a test holds; also for a loop that looks for it turn by turn.
-- Assumes nothing.
use Rattle.std.proofs.Common.{◌≡◌, ℕ, zero, suc, ◌+◌, ◌-◌, ◌≤◌, Bool, true, false, cond, ◌||◌, eqb, List, [], ◌∷◌, ◌++◌, length, Some, None, Option, sym, refl, ap, ◌∙◌, ap₂, add-one, one-add, add-zero, arith}
use Rattle.std.proofs.lemmas.Bool.{eqb-true, eqb-false}
use Rattle.std.proofs.iter.runs.Sources.{nat_range_inclusive_steps}
use Rattle.std.proofs.lemmas.Iterator.{YieldsList}
use Rattle.std.proofs.lemmas.Iterator.Consumers.{YieldsList-from_shown}
use Rattle.std.proofs.Math.Bool.{or-false}
use Rattle.std.specs.Iterator.{FindsItem, ChecksAny}
use Rattle.std.specs.Fn.{Called, CalledAt}
use Rattle.std.specs.Option.{option_or, option_map}
use denote.Param.Members.{Mut}
use denote.Ref.{Bor}
use Rattle.std.specs.List.{range_with_len, find, list_any}
use Rattle.std.proofs.lemmas.List.Folds.{find-append, list_any-append}
use Rattle.std.proofs.lemmas.Iterator.Search.{find_from_yields_List, any_from_yields_List}
use Rattle.std.specs.Range.{range_inclusive_start, range_inclusive_end, range_inclusive_exhausted, range_inclusive_len}
use Rattle.std.specs.declared.ops.RangeInclusive.{RangeInclusive}
use Rattle.encoding.specs.Ranges.{Each, some}
use Rattle.table.specs.Verdicts.{lowest}

-- `1..=n` gives the numbers 1 .. n

abbrev left : RangeInclusive ℕ → ℕ
left s = range_inclusive_len (λ x y. y - x) (range_inclusive_start s) (range_inclusive_end s) (range_inclusive_exhausted s)

abbrev numbers : RangeInclusive ℕ → List ℕ
numbers s = range_with_len (range_inclusive_start s) (left s)

next : (a b m n : ℕ) (spent : Bool) → m + 1 ≡ n → (spent ≡ true → m ≡ 0) → (spent ≡ false → b ≡ a + 1) → range_with_len a n ≡ a ∷ range_with_len b m
next a b m n spent e z f = ap (range_with_len a) (sym e ∙ add-one m) ∙ ap (λ xs. a ∷ xs) (go spent z f) where
  go : (s : Bool) → (s ≡ true → m ≡ 0) → (s ≡ false → b ≡ a + 1) → range_with_len (a + 1) m ≡ range_with_len b m
  go true z f = ap (range_with_len (a + 1)) (z refl) ∙ sym (ap (range_with_len b) (z refl))
  go false z f = ap (λ x. range_with_len x m) (sym (f refl))

pub gives_numbers : (s : RangeInclusive ℕ) → YieldsList nat_range_inclusive_steps (λ x. x) s (numbers s)
gives_numbers =
    YieldsList-from_shown nat_range_inclusive_steps (λ x. x) numbers
    (λ s t k. ap length (ap (range_with_len (range_inclusive_start s)) k.1.0))
    (λ s x t k.
    next (range_inclusive_start s) (range_inclusive_start t) (left t) (left s) (range_inclusive_exhausted t) k.1.1
    (λ e. ap (range_inclusive_len (λ x y. y - x) (range_inclusive_start t) (range_inclusive_end t)) e) k.1.2
    ∙ ap (λ y. y ∷ numbers t) (sym k.1.0))

range-more : (a n : ℕ) → range_with_len a (suc n) ≡ range_with_len a n ++ (a + n) ∷ []
range-more a zero = ap (λ x. x ∷ []) (sym (add-zero a))
range-more a (suc n) = ap (λ xs. a ∷ xs) (range-more (a + 1) n ∙ ap (λ x. range_with_len (a + 1) n ++ x ∷ []) (omega arith))

same_item : (r : Option ℕ) → r ≡ option_map (λ x. x) r
same_item None = refl
same_item (Some x) = refl

find-numbers : (n : ℕ) (f : ℕ → Bool) → find f (range_with_len 1 n) ≡ lowest n f
unfolding lowest
find-numbers zero f = refl
find-numbers (suc n) f =
    ap (find f) (range-more 1 n) ∙ find-append f (range_with_len 1 n) ((1 + n) ∷ [])
    ∙ ap₂ (λ (o : Option ℕ) m. option_or o (cond (f m) (Some m) None)) (find-numbers n f) (one-add n)

any-numbers : (n : ℕ) (f : ℕ → Bool) → list_any f (range_with_len 1 n) ≡ some n f
unfolding some
any-numbers zero f = refl
any-numbers (suc n) f =
    ap (list_any f) (range-more 1 n) ∙ list_any-append f (range_with_len 1 n) ((1 + n) ∷ [])
    ∙ ap₂ (λ b m. b || (f m || false)) (any-numbers n f) (one-add n) ∙ ap (λ b. some n f || b) (or-false (f (suc n)))

module _ {F : Type 0} (n : ℕ) (f : ℕ → Bool) {s : RangeInclusive ℕ} (u : RangeInclusive ℕ) (p : F) (from : range_inclusive_start s ≡ 1) (to : range_inclusive_end s ≡ n) (fresh : range_inclusive_exhausted s ≡ false) where
  all-numbers : numbers s ≡ range_with_len 1 n
  all-numbers =
      let e : left s ≡ n = omega (arith, ap (range_inclusive_len (λ x y. y - x) (range_inclusive_start s) (range_inclusive_end s)) fresh) in
      ap₂ range_with_len from e

  pub lowest-of-find : {g : Mut F (Bor ℕ × Unit {0}) Bool} (r : Option ℕ) → FindsItem nat_range_inclusive_steps g s p r u
      → ((x : ℕ) (b : Bool) (q : F) → CalledAt g p x b q → (q ≡ p) × (b ≡ f x)) → r ≡ lowest n f
  lowest-of-find r ran says =
      same_item r ∙ find_from_yields_List f u p r ran (gives_numbers s) says ∙ ap (find f) all-numbers ∙ find-numbers n f

  pub some-found : {g : Mut F (ℕ × Unit {0}) Bool} (r : Bool) → ChecksAny nat_range_inclusive_steps g s p r u
      → ((x : ℕ) (b : Bool) (q : F) → Called g p (x, tt) b q → (q ≡ p) × (b ≡ f x)) → r ≡ some n f
  some-found r ran says = any_from_yields_List f u p r ran (gives_numbers s) says ∙ ap (list_any f) all-numbers ∙ any-numbers n f

-- A loop over 1 .. n that looks for the lowest number: none so far, at the start and after a turn, and found

pub some-none : (f : ℕ → Bool) → some 0 f ≡ false
unfolding some
some-none f = refl

pub some_more : (i : ℕ) (f : ℕ → Bool) → some i f ≡ false → f (i + 1) ≡ false → some (i + 1) f ≡ false
unfolding some
some_more i f h k = ap (λ m. some m f) (add-one i) ∙ ap₂ ◌||◌ h (ap f (sym (add-one i)) ∙ k)

pub lowest-none : (f : ℕ → Bool) → lowest 0 f ≡ None
unfolding lowest
lowest-none f = refl

pub lowest-more : (i : ℕ) (f : ℕ → Bool) → lowest i f ≡ None → f (i + 1) ≡ false → lowest (i + 1) f ≡ None
unfolding lowest
lowest-more i f h k =
    ap (λ m. lowest m f) (add-one i) ∙ ap₂ (λ (o : Option ℕ) b. option_or o (cond b (Some (suc i)) None)) h (ap f (sym (add-one i)) ∙ k)

found : (n i : ℕ) (f : ℕ → Bool) → lowest i f ≡ None → f (suc i) ≡ true → suc i ≤ n → lowest n f ≡ Some (suc i)
unfolding lowest
found zero i f h k l = absurd (omega arith)
found (suc m) i f h k l = go (eqb i m) refl (λ u. found m i f h k u) where
  go : (b : Bool) → eqb i m ≡ b → (suc i ≤ m → lowest m f ≡ Some (suc i)) → option_or (lowest m f) (cond (f (suc m)) (Some (suc m)) None) ≡ Some (suc i)
  go true e r =
      let j = sym (eqb-true i m e) in
      ap (λ x. option_or (lowest x f) (cond (f (suc x)) (Some (suc x)) None)) j
      ∙ ap₂ (λ (o : Option ℕ) b. option_or o (cond b (Some (suc i)) None)) h k
  go false e r = let ne = eqb-false i m e in ap (λ (o : Option ℕ). option_or o (cond (f (suc m)) (Some (suc m)) None)) (r (omega arith))

pub lowest-found : (n i : ℕ) (f : ℕ → Bool) → lowest i f ≡ None → f (i + 1) ≡ true → i + 1 ≤ n → Some (i + 1) ≡ lowest n f
lowest-found n i f h k l = ap Some (add-one i) ∙ sym (found n i f h (ap f (sym (add-one i)) ∙ k) (omega arith))

-- no number at all

left-none : {X : Type 0} (o q : Option X) → option_or o q ≡ None → o ≡ None
left-none None q h = refl
left-none (Some x) q h = h

right-none : {X : Type 0} (o q : Option X) → option_or o q ≡ None → q ≡ None
right-none None q h = h
right-none (Some x) q h = absurd (cc)

pub parts_none : {X : Type 0} (o q : Option X) → option_or o q ≡ None → (o ≡ None) × (q ≡ None)
parts_none o q h = (left-none o q h, right-none o q h)

pub none-parts : {X : Type 0} (o q : Option X) → o ≡ None → q ≡ None → option_or o q ≡ None
none-parts o q h k = ap (λ (x : Option _). option_or x q) h ∙ k

chosen_none : (b : Bool) (x : ℕ) → cond b (Some x) None ≡ None → b ≡ false
chosen_none true x h = absurd (cc)
chosen_none false x h = refl

pub none_below : (n : ℕ) (f : ℕ → Bool) → lowest n f ≡ None → Each n (λ i. f i ≡ false)
unfolding lowest
none_below zero f h i l u = absurd (omega arith)
none_below (suc n) f h i l u = go (eqb i (suc n)) refl (λ v. none_below n f (left-none (lowest n f) _ h) i l v) where
  go : (b : Bool) → eqb i (suc n) ≡ b → (i ≤ n → f i ≡ false) → f i ≡ false
  go true e r = ap f (eqb-true i (suc n) e) ∙ chosen_none (f (suc n)) (suc n) (right-none (lowest n f) _ h)
  go false e r = let ne = eqb-false i (suc n) e in r (omega arith)

pub below_none : (n : ℕ) (f : ℕ → Bool) → Each n (λ i. f i ≡ false) → lowest n f ≡ None
unfolding lowest
below_none zero f h = refl
below_none (suc n) f h =
    none-parts (lowest n f) _ (below_none n f (λ i l u. h i l (omega arith))) (ap (λ b. cond b (Some (suc n)) None) (h (suc n) (omega arith) (omega arith)))
