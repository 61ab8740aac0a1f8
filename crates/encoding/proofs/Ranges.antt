-- What holds of each element, lists made by `each`, counts and totals; and their steps for a loop that counts by i + 1.
-- Assumes nothing.
use Rattle.std.proofs.Common.{◌≡◌, ℕ, zero, suc, ◌+◌, ◌-◌, ◌<◌, ◌≤◌, Bool, true, false, cond, ◌||◌, ◌⊎◌, List, [], ◌∷◌, ◌++◌, map, length, get_or, sym, refl, ap, ◌∙◌, subst, ap₂, inl, inr, ⊎_elim, append_assoc, append-nil, add-zero, add-suc, add-one, arith, length-append}
use Rattle.std.proofs.ByRecursion.{All-append, has_append_left, has_append_right}
use Rattle.std.proofs.lemmas.List.{map-append, get_or_append_left, get_or_push}
use Rattle.std.proofs.lemmas.Bool.{false≢true, true≢false}
use Rattle.std.specs.List.{ContainsAt as Has, AllByRecursion}
use native.Mathlib.Decide.{dec_le}
use Rattle.encoding.specs.Ranges.{Each, count, each, some, total, up_to}

pub all_left : {X : Type 0} (P : X → Type 0) (xs ys : List X) → AllByRecursion P (xs ++ ys) → AllByRecursion P xs
all_left P [] ys h = tt
all_left P (x ∷ xs) ys h = (h.0, all_left P xs ys h.1)

pub all_right : {X : Type 0} (P : X → Type 0) (xs ys : List X) → AllByRecursion P (xs ++ ys) → AllByRecursion P ys
all_right P [] ys h = h
all_right P (x ∷ xs) ys h = all_right P xs ys h.1

-- the last of 1 .. suc n, or one before it
pub last_or : (n i : ℕ) → i ≤ suc n → (i ≡ suc n) ⊎ (i ≤ n)
last_or n i h = go (dec_le i n)
  where
    go : Dec (i ≤ n) → (i ≡ suc n) ⊎ (i ≤ n)
    go (yes l) = inr l
    go (no l) = inl (omega arith)

pub all-each : {X : Type 0} (P : X → Type 0) (n : ℕ) (f : ℕ → List X) → AllByRecursion P (each n f) → Each n (λ i. AllByRecursion P (f i))
unfolding each
all-each P zero f h i l m = absurd (omega arith)
all-each P (suc n) f h i l m =
    ⊎_elim (λ e. rw e (all_right P (each n f) (f (suc n)) h)) (λ k. all-each P n f (all_left P (each n f) (f (suc n)) h) i l k) (last_or n i m)

pub each_all : {X : Type 0} (P : X → Type 0) (n : ℕ) (f : ℕ → List X) → Each n (λ i. AllByRecursion P (f i)) → AllByRecursion P (each n f)
unfolding each
each_all P zero f h = tt
each_all P (suc n) f h = All-append P (each n f) (f (suc n)) (each_all P n f (λ i l m. h i l (omega arith))) (h (suc n) (omega arith) (omega arith))

pub or-false-parts : (a b : Bool) → (a || b) ≡ false → (a ≡ false) × (b ≡ false)
or-false-parts true b h = absurd (true≢false h)
or-false-parts false b h = (refl, h)

pub some-none : (n : ℕ) (f : ℕ → Bool) → some n f ≡ false → Each n (λ i. f i ≡ false)
unfolding some
some-none zero f h i l m = absurd (omega arith)
some-none (suc n) f h i l m = let q = or-false-parts (some n f) (f (suc n)) h in ⊎_elim (λ e. rw e q.1) (λ k. some-none n f q.0 i l k) (last_or n i m)

pub none-some : (n : ℕ) (f : ℕ → Bool) → Each n (λ i. f i ≡ false) → some n f ≡ false
unfolding some
none-some zero f h = refl
none-some (suc n) f h = rw (none-some n f (λ i l m. h i l (omega arith)), h (suc n) (omega arith) (omega arith))

pub only-in : {X : Type 0} (P : X → Type 0) (b : Bool) (xs : List X) → AllByRecursion P (cond b xs []) → b ≡ true → AllByRecursion P xs
only-in P true xs h e = h
only-in P false xs h e = absurd (false≢true e)

pub in-only : {X : Type 0} (P : X → Type 0) (b : Bool) (xs : List X) → (b ≡ true → AllByRecursion P xs) → AllByRecursion P (cond b xs [])
in-only P true xs h = h refl
in-only P false xs h = tt

pub each-cong : {A : Type 0} (n : ℕ) (f g : ℕ → List A) → Each n (λ i. f i ≡ g i) → each n f ≡ each n g
unfolding each
each-cong zero f g h = refl
each-cong (suc n) f g h = ap₂ ◌++◌ (each-cong n f g (λ i u v. h i u (omega arith))) (h (suc n) (omega arith) (omega arith))

pub map_each : {A B : Type 0} (k : A → B) (n : ℕ) (f : ℕ → List A) → map k (each n f) ≡ each n (λ i. map k (f i))
unfolding each
map_each k zero f = refl
map_each k (suc n) f = map-append k (each n f) (f (suc n)) ∙ ap (λ l. l ++ map k (f (suc n))) (map_each k n f)

pub has_one : {A : Type 0} (x : A) → Has (x ∷ []) x
has_one x = (0, omega arith, λ d. refl)

pub has-each : {A : Type 0} (n : ℕ) (f : ℕ → List A) (x : A) → Each n (λ i. Has (f i) x → Has (each n f) x)
unfolding each
has-each zero f x i u v h = absurd (omega arith)
has-each (suc n) f x i u v h = ⊎_elim (λ j. has_append_right (each n f) (f (suc n)) x (subst (λ k. Has (f k) x) j h)) (λ j. has_append_left (each n f) (f (suc n)) x (has-each n f x i u j h)) (last_or n i v)

-- a + 1, .., a + n
unfoldable pub ups : ℕ → ℕ → List ℕ
ups a n = each n (λ i. (a + i) ∷ [])

pub length-ups : (a n : ℕ) → length (ups a n) ≡ n
unfolding ups each
length-ups a zero = refl
length-ups a (suc n) = length-append (ups a n) _ ∙ rw (length-ups a n) (omega arith)

pub get_or-ups : (a n i d : ℕ) → i < n → get_or (ups a n) i d ≡ a + suc i
unfolding ups each
get_or-ups a zero i d l = absurd (omega arith)
get_or-ups a (suc n) i d l = ⊎_elim (λ e. let j : i ≡ n = omega arith in get_or_push (ups a n) (a + suc n) d i (length-ups a n ∙ sym j) ∙ ap (λ x. a + x) (sym e))
    (λ m. get_or_append_left (ups a n) _ d i (rw (length-ups a n) m) ∙ get_or-ups a n i d m) (last_or n (suc i) l)

pub ups-append : (a m n : ℕ) → ups a m ++ ups (a + m) n ≡ ups a (m + n)
unfolding ups each
ups-append a m zero = append-nil (ups a m) ∙ ap (ups a) (sym (add-zero m))
ups-append a m (suc n) =
    let e : a + m + suc n ≡ a + suc (m + n) = omega arith in
    sym (append_assoc (ups a m) (ups (a + m) n) ((a + m + suc n) ∷ [])) ∙ ap₂ (λ l x. l ++ x ∷ []) (ups-append a m n) e ∙ ap (ups a) (sym (add-suc m n))

pub ups-up_to : (n : ℕ) → ups 0 n ≡ up_to n
unfolding ups
ups-up_to n = each-cong n _ _ (λ i u v. ap (λ (x : ℕ). x ∷ []) (omega arith))

pub ups-next : (a b m n : ℕ) (xs ys : List ℕ) → xs ≡ ups a m → ys ≡ ups b n → a + m ≡ b → xs ++ ys ≡ ups a (m + n)
ups-next a b m n xs ys p q e = ap₂ ◌++◌ p (q ∙ ap (λ x. ups x n) (sym e)) ∙ ups-append a m n

-- for a loop that counts by i + 1
pub each_more : {X : Type 0} (i : ℕ) (f : ℕ → List X) → each (i + 1) f ≡ each i f ++ f (i + 1)
unfolding each
each_more i f = rw add-one

pub count-more : (i : ℕ) (f : ℕ → Bool) → count (i + 1) f ≡ count i f + cond (f (i + 1)) 1 0
unfolding count
count-more i f = rw add-one

pub count-suc : (k : ℕ) (f : ℕ → Bool) → count (suc k) f ≡ count k f + cond (f (suc k)) 1 0
unfolding count
count-suc k f = refl

pub total-more : (i : ℕ) (f : ℕ → ℕ) → total (i + 1) f ≡ total i f + f (i + 1)
unfolding total
total-more i f = rw add-one

pub count-le : (k : ℕ) (f : ℕ → Bool) → count k f ≤ k
unfolding count
count-le zero f = omega arith
count-le (suc k) f = let h = count-le k f in go (f (suc k)) h
  where
    go : (b : Bool) → count k f ≤ k → count k f + cond b 1 0 ≤ suc k
    go true h = omega arith
    go false h = omega arith

pub count-step : (k d : ℕ) (f : ℕ → Bool) → count k f ≤ count (k + d) f
unfolding count
count-step k zero f = let e : k + 0 ≡ k = omega arith in rw e (omega arith)
count-step k (suc d) f = let e : k + suc d ≡ suc (k + d) = omega arith in let h = count-step k d f in rw e (omega arith)

pub count-mono : (k n : ℕ) (f : ℕ → Bool) → k ≤ n → count k f ≤ count n f
count-mono k n f l = let e : k + (n - k) ≡ n = omega arith in subst (λ m. count k f ≤ count m f) e (count-step k (n - k) f)
