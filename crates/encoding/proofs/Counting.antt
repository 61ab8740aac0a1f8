-- How many clauses of each length there are: a tally of a list of clauses, by its parts.
-- Assumes nothing.
use Rattle.std.proofs.Common.{◌≡◌, ℕ, zero, suc, ◌+◌, ◌*◌, ◌≤◌, Bool, true, false, cond, not, ◌&&◌, ◌||◌, eqb, ltb, ◌≢◌, List, [], ◌∷◌, ◌++◌, map, length, sym, refl, ap, ◌∙◌, subst, ap₂, suc-mul, add-mul, zero-mul, arith}
use Rattle.std.proofs.lemmas.Bool.{ne_eqb, eq-eqb}
use lib.ListN.{length-map}
use Rattle.std.specs.List.{ContainsAt as Has, AllByRecursion}
use Rattle.std.proofs.ByRecursion.{All-weaker, all_has_itself}
use Rattle.std.proofs.lemmas.List.Sums.{get_or-le-sum_by, sum_by-cons, sum_by-append}
use Rattle.encoding.specs.Ranges.{Each, count, each, only, total}
use Rattle.encoding.specs.Tables.{Table, events, harms, owner, relevant, requires}
use Rattle.encoding.specs.Variables.{O, V, X, Y, number}
use Rattle.encoding.specs.Clauses.{agenda, agenda_of, clauses, enter, formula, goal, goal_facts, is, isnt, kept, kept_of, none_open, pass_on, rename, same, same_unless, signed, start, start_facts, step, truth, truth_of, turn, turn_of}
use Rattle.encoding.specs.Counts.{changes, kept_pairs, of_length, ones, price, threes, turn_threes, turn_twos, twos}
use Rattle.encoding.specs.Theorem.{Counted}

-- a list of a clauses of one literal, b of two and c of three, and no others
abbrev pub Tally : {L : Type 0} → List (List L) → (a b c : ℕ) → Type 0
Tally cs a b c = (cost : ℕ → ℕ) → price cost cs ≡ a * cost 1 + b * cost 2 + c * cost 3

tally-to : {L : Type 0} (cs : List (List L)) (a b c a' b' c' : ℕ) → a ≡ a' → b ≡ b' → c ≡ c' → Tally cs a b c → Tally cs a' b' c'
tally-to cs a b c a' b' c' p q r h = rw (← p, ← q, ← r) h

tally-none : (L : Type 0) → Tally {L = L} [] 0 0 0
tally-none L cost = omega arith

tally-append : {L : Type 0} (xs ys : List (List L)) (a b c a' b' c' : ℕ) → Tally xs a b c → Tally ys a' b' c' → Tally (xs ++ ys) (a + a') (b + b') (c + c')
tally-append xs ys a b c a' b' c' h k cost =
    let i = h cost in
    let j = k cost in
    sum_by-append (λ c. cost (length c)) xs ys ∙ rw (add-mul a a' (cost 1), add-mul b b' (cost 2), add-mul c c' (cost 3)) (omega arith)

tally-each : {L : Type 0} (n : ℕ) (f : ℕ → List (List L)) (a b c : ℕ → ℕ) → Each n (λ i. Tally (f i) (a i) (b i) (c i)) → Tally (each n f) (total n a) (total n b) (total n c)
unfolding each total
tally-each {L} zero f a b c h = tally-none L
tally-each {L} (suc n) f a b c h = tally-append (each n f) (f (suc n)) (total n a) (total n b) (total n c) (a (suc n)) (b (suc n)) (c (suc n)) (tally-each n f a b c (λ i u v. h i u (omega arith))) (h (suc n) (omega arith) (omega arith))

tally-only : {L : Type 0} (t : Bool) (xs : List (List L)) (a b c : ℕ) → Tally xs a b c → Tally (only t xs) (cond t a 0) (cond t b 0) (cond t c 0)
tally-only {L} true xs a b c h = h
tally-only {L} false xs a b c h = tally-none L

-- a clause by its length
tally-one : {L : Type 0} (x : L) → Tally ((x ∷ []) ∷ []) 1 0 0
tally-one x cost = omega arith

tally-two : {L : Type 0} (x y : L) → Tally ((x ∷ y ∷ []) ∷ []) 0 1 0
tally-two x y cost = omega arith

-- a clause's price is that of its length alone
pub price-map : {L M : Type 0} (cost : ℕ → ℕ) (f : L → M) (cs : List (List L)) → price cost (map (map f) cs) ≡ price cost cs
price-map cost f [] = refl
price-map cost f (c ∷ cs) = sum_by-cons (λ c. cost (length c)) (map f c) (map (map f) cs) ∙ ap₂ ◌+◌ (ap cost (length-map c f)) (price-map cost f cs) ∙ sym (sum_by-cons (λ c. cost (length c)) c cs)

-- totals of one value
total-same : (n m : ℕ) → total n (λ i. m) ≡ n * m
unfolding total
total-same zero m = sym (zero-mul m)
total-same (suc n) m = rw (total-same n m) (sym (suc-mul n m))

total-cong : (n : ℕ) (f g : ℕ → ℕ) → Each n (λ i. f i ≡ g i) → total n f ≡ total n g
unfolding total
total-cong zero f g h = refl
total-cong (suc n) f g h = ap₂ ◌+◌ (total-cong n f g (λ i u v. h i u (omega arith))) (h (suc n) (omega arith) (omega arith))

total-zero : (n : ℕ) → total n (λ i. 0) ≡ 0
total-zero n = total-same n 0 ∙ omega arith

total-count : (n : ℕ) (f : ℕ → Bool) → total n (λ i. cond (f i) 1 0) ≡ count n f
unfolding total count
total-count zero f = refl
total-count (suc n) f = ap (λ (k : ℕ). k + cond (f (suc n)) 1 0) (total-count n f)

cond-zero : (b : Bool) → ◌≡◌ {A = ℕ} (cond b 0 0) 0
cond-zero true = refl
cond-zero false = refl

module _ (T : Table) where
  tally-none_open : (t : ℕ) → Tally (none_open T t) T.actions 0 0
  tally-none_open t = tally-to (none_open T t) _ _ _ T.actions 0 0 (total-same T.actions 1 ∙ omega arith) (total-zero T.actions) (total-zero T.actions)
      (tally-each T.actions (λ a. (isnt (O t a) ∷ []) ∷ []) (λ a. 1) (λ a. 0) (λ a. 0) (λ a u v. tally-one (isnt (O t a))))

  pub tally-start : Tally (start T) (T.facts + T.actions) 0 0
  unfolding start
  tally-start = tally-append (start_facts T) (none_open T 0) T.facts 0 0 T.actions 0 0
      (tally-to (start_facts T) _ _ _ T.facts 0 0 (total-same T.facts 1 ∙ omega arith) (total-zero T.facts) (total-zero T.facts)
      (tally-each T.facts _ (λ p. 1) (λ p. 0) (λ p. 0) (λ p u v. tally-one (cond (T.initial p) (is (X 0 p)) (isnt (X 0 p))))))
      (tally-none_open 0)

  pub tally-goal : (n : ℕ) → Tally (goal T n) (count T.facts T.goal + T.actions) 0 0
  unfolding goal
  tally-goal n = tally-append (goal_facts T n) (none_open T n) (count T.facts T.goal) 0 0 T.actions 0 0
      (tally-to (goal_facts T n) _ _ _ (count T.facts T.goal) 0 0 (total-count T.facts T.goal) (total-cong T.facts _ _ (λ p u v. cond-zero (T.goal p)) ∙ total-zero T.facts) (total-cong T.facts _ _ (λ p u v. cond-zero (T.goal p)) ∙ total-zero T.facts)
      (tally-each T.facts _ (λ p. cond (T.goal p) 1 0) (λ p. cond (T.goal p) 0 0) (λ p. cond (T.goal p) 0 0) (λ p u v. tally-only (T.goal p) ((is (X n p) ∷ []) ∷ []) 1 0 0 (tally-one (is (X n p))))))
      (tally-none_open n)

  tally-agenda : (s : ℕ) → Tally (agenda T s) 0 (T.actions * 2) (T.actions * 4)
  unfolding agenda_of
  tally-agenda s = tally-to (agenda T s) _ _ _ 0 (T.actions * 2) (T.actions * 4) (total-zero T.actions) (total-same T.actions 2) (total-same T.actions 4)
      (tally-each T.actions _ (λ a. 0) (λ a. 2) (λ a. 4) (λ a u v cost. omega arith))

  tally-kept : (s : ℕ) → Tally (kept T s) 0 (kept_pairs T) 0
  unfolding kept_of kept_pairs
  tally-kept s = tally-to (kept T s) _ _ _ 0 (kept_pairs T) 0 (total-zero (events T)) refl (total-zero (events T))
      (tally-each (events T) (λ e. each T.actions (kept_of T s e)) (λ e. 0) (λ e. count T.actions (λ a. harmed e a)) (λ e. 0) (λ e u v.
      tally-to (each T.actions (kept_of T s e)) _ _ _ 0 (count T.actions (λ a. harmed e a)) 0 (none e) (total-count T.actions (harmed e)) (none e)
      (tally-each T.actions (kept_of T s e) (λ a. cond (harmed e a) 0 0) (λ a. cond (harmed e a) 1 0) (λ a. cond (harmed e a) 0 0) (λ a u v. tally-only (harmed e a) _ 0 1 0 (tally-two (isnt (Y (suc s) e)) (isnt (O (cond (ltb a (owner e)) (suc s) s) a)))))))
    where
      harmed : ℕ → ℕ → Bool
      harmed e a = not (eqb a (owner e)) && harms T e a

      none : (e : ℕ) → total T.actions (λ a. cond (harmed e a) 0 0) ≡ 0
      none e = total-cong T.actions _ _ (λ a u v. cond-zero (harmed e a)) ∙ total-zero T.actions

  tally-turn : {L : Type 0} (r a d : Bool) (y v w : L) → Tally (turn r a d y v w) 0 (cond r 1 0 + cond (a || d) 1 2) (cond (a || d) 2 0)
  unfolding turn pass_on same same_unless
  tally-turn true true d y v w cost = omega arith
  tally-turn true false true y v w cost = omega arith
  tally-turn true false false y v w cost = omega arith
  tally-turn false true d y v w cost = omega arith
  tally-turn false false true y v w cost = omega arith
  tally-turn false false false y v w cost = omega arith

  -- what an event changes is relevant to it
  threes-relevant : (r b : Bool) → ◌≡◌ {A = ℕ} (cond (r || b) (cond b 2 0) 0) (cond b 2 0)
  threes-relevant true b = refl
  threes-relevant false true = refl
  threes-relevant false false = refl

  tally-truth_of : (s p : ℕ) → Tally (truth_of T s p) 0 (2 + total (events T) (turn_twos T p)) (total (events T) (turn_threes T p))
  unfolding truth_of turn_of same turn_twos turn_threes relevant
  tally-truth_of s p = tally-to (truth_of T s p) 0 (2 + total (events T) (turn_twos T p)) (0 + total (events T) (turn_threes T p)) 0 _ _ refl refl (omega arith) (tally-append (enter T s p) (each (events T) (turn_of T s p)) 0 2 0 0 (total (events T) (turn_twos T p)) (total (events T) (turn_threes T p)) (λ cost. omega arith)
      (tally-to (each (events T) (turn_of T s p)) _ _ _ 0 (total (events T) (turn_twos T p)) (total (events T) (turn_threes T p))
      (total-cong (events T) _ _ (λ e u v. cond-zero (relevant T e p)) ∙ total-zero (events T)) refl (total-cong (events T) _ _ (λ e u v. threes-relevant (requires T e p) (changes T e p)))
      (tally-each (events T) (turn_of T s p) (λ e. cond (relevant T e p) 0 0) (turn_twos T p) (λ e. cond (relevant T e p) (cond (changes T e p) 2 0) 0) (λ e u v.
      tally-only (relevant T e p) _ 0 (cond (requires T e p) 1 0 + cond (changes T e p) 1 2) (cond (changes T e p) 2 0) (tally-turn (requires T e p) (T.adds e p) (T.deletes e p) (Y (suc s) e) (V (suc s) e p) _)))))

  tally-truth : (s : ℕ) → Tally (truth T s) 0 (total T.facts (λ p. 2 + total (events T) (turn_twos T p))) (total T.facts (λ p. total (events T) (turn_threes T p)))
  tally-truth s = tally-to (truth T s) _ _ _ 0 _ _ (total-zero T.facts) refl refl (tally-each T.facts (truth_of T s) (λ p. 0) (λ p. 2 + total (events T) (turn_twos T p)) (λ p. total (events T) (turn_threes T p)) (λ p u v. tally-truth_of s p))

  pub tally-step : (s : ℕ) → Tally (step T (suc s)) 0 (twos T) (threes T)
  unfolding step twos threes
  tally-step s = tally-to (step T (suc s)) _ _ _ 0 (twos T) (threes T) refl refl (omega arith)
      (tally-append (agenda T s ++ kept T s) (truth T s) 0 (T.actions * 2 + kept_pairs T) (T.actions * 4 + 0) 0 _ _ (tally-append (agenda T s) (kept T s) 0 (T.actions * 2) (T.actions * 4) 0 (kept_pairs T) 0 (tally-agenda s) (tally-kept s)) (tally-truth s))

  tally-steps : (n : ℕ) → Tally (each n (step T)) 0 (n * twos T) (n * threes T)
  tally-steps n = tally-to (each n (step T)) _ _ _ 0 (n * twos T) (n * threes T) (total-zero n) (total-same n (twos T)) (total-same n (threes T)) (tally-each n (step T) (λ t. 0) (λ t. twos T) (λ t. threes T) at)
    where
      at : Each n (λ t. Tally (step T t) 0 (twos T) (threes T))
      at zero u v = absurd (omega arith)
      at (suc s) u v = tally-step s

  tally-clauses : (n : ℕ) → Tally (clauses T n) (ones T) (n * twos T) (n * threes T)
  unfolding clauses ones
  tally-clauses n = tally-to (clauses T n) (T.facts + T.actions + 0 + (count T.facts T.goal + T.actions)) (0 + n * twos T + 0) (0 + n * threes T + 0) (ones T) (n * twos T) (n * threes T) (omega arith) (omega arith) (omega arith)
      (tally-append (start T ++ each n (step T)) (goal T n) (T.facts + T.actions + 0) (0 + n * twos T) (0 + n * threes T) (count T.facts T.goal + T.actions) 0 0
      (tally-append (start T) (each n (step T)) (T.facts + T.actions) 0 0 0 (n * twos T) (n * threes T) tally-start (tally-steps n)) (tally-goal n))

  pub tally-formula : (n : ℕ) → Tally (formula T n) (ones T) (n * twos T) (n * threes T)
  unfolding formula
  tally-formula n cost = price-map cost (rename (number T)) (clauses T n) ∙ tally-clauses n cost

length-price : {L : Type 0} (cs : List (List L)) → length cs ≡ price (λ k. 1) cs
length-price [] = refl
length-price (c ∷ cs) = ap suc (length-price cs) ∙ (omega arith) ∙ sym (sum_by-cons (λ c. 1) c cs)

no-others : (k a b c : ℕ) → k ≢ 1 → k ≢ 2 → k ≢ 3 → a * cond (eqb 1 k) 1 0 + b * cond (eqb 2 k) 1 0 + c * cond (eqb 3 k) 1 0 ≡ 0
no-others k a b c h i j = rw (ne_eqb 1 k (λ e. h (sym e)), ne_eqb 2 k (λ e. i (sym e)), ne_eqb 3 k (λ e. j (sym e))) (omega arith)

-- a clause that is in the list is counted there
counted-in : {L : Type 0} (cs : List (List L)) (c : List L) → Has cs c → 1 ≤ of_length (length c) cs
counted-in cs c h =
    let (i, l, at) = h in
    subst (λ (k : ℕ). k ≤ of_length (length c) cs) (ap (λ d. cond (eqb (length d) (length c)) 1 0) (at []) ∙ ap (λ b. cond b 1 0) (eq-eqb (length c) (length c) refl)) (get_or-le-sum_by (λ d. cond (eqb (length d) (length c)) 1 0) cs i [] l)

lengths : (T : Table) (n : ℕ) → AllByRecursion (λ c. (1 ≤ length c) × (length c ≤ 3)) (formula T n)
lengths T n = All-weaker (Has (formula T n)) _ (λ c h. go (length c) (counted-in (formula T n) c h)) (formula T n) (all_has_itself (formula T n))
  where
    none : (k : ℕ) → 1 ≤ of_length k (formula T n) → k ≢ 1 → k ≢ 2 → k ≢ 3 → ⊥
    none k h a b c = let e = tally-formula T n (λ l. cond (eqb l k) 1 0) ∙ no-others k (ones T) (n * twos T) (n * threes T) a b c in omega arith

    go : (k : ℕ) → 1 ≤ of_length k (formula T n) → (1 ≤ k) × (k ≤ 3)
    go zero h = absurd (none 0 h (λ e. omega arith) (λ e. omega arith) (λ e. omega arith))
    go (suc zero) h = (omega arith, omega arith)
    go (suc (suc zero)) h = (omega arith, omega arith)
    go (suc (suc (suc zero))) h = (omega arith, omega arith)
    go (suc (suc (suc (suc k)))) h = absurd (none (suc (suc (suc (suc k)))) h (λ e. omega arith) (λ e. omega arith) (λ e. omega arith))

pub counted : Counted
counted = record {
  one = λ T n. tally-formula T n (λ j. cond (eqb j 1) 1 0) ∙ omega arith;
  two = λ T n. tally-formula T n (λ j. cond (eqb j 2) 1 0) ∙ omega arith;
  three = λ T n. tally-formula T n (λ j. cond (eqb j 3) 1 0) ∙ omega arith;
  others = λ T n k h i j. tally-formula T n (λ l. cond (eqb l k) 1 0) ∙ no-others k (ones T) (n * twos T) (n * threes T) h i j;
  lengths = lengths;
  all = λ T n. length-price (formula T n) ∙ tally-formula T n (λ k. 1) ∙ omega arith;
  priced = λ T n cost. price-map cost signed (formula T n) ∙ tally-formula T n cost;
}
