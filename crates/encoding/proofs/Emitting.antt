-- The formula over numbers, part by part, as a loop writes it.
-- Assumes nothing.
use Rattle.std.proofs.Common.{◌≡◌, ℕ, zero, suc, ◌+◌, ◌-◌, ◌*◌, ◌≤◌, Bool, true, false, cond, not, ◌&&◌, eqb, ltb, List, [], ◌∷◌, ◌++◌, map, refl, ap, ◌∙◌, ap₂, arith}
use Rattle.std.proofs.lemmas.List.{map-append}
use Rattle.std.proofs.lemmas.Bool.{lt-ltb, le-ltb}
use Rattle.encoding.specs.Ranges.{count, each, only, total}
use Rattle.encoding.specs.Tables.{Table, events, harms, owner, relevant, requires}
use Rattle.encoding.specs.Variables.{O, V, Var, X, Y, number, pairs, rank, variables, width}
use Rattle.encoding.specs.Clauses.{Clause, agenda, agenda_of, clauses, enter, formula, goal, goal_facts, is, isnt, kept, kept_of, next, none_open, numbered, pass_on, rename, same, same_unless, start, start_facts, step, truth, truth_of, turn, turn_of}
use Rattle.encoding.specs.Chains.{truth_at}
use Rattle.encoding.proofs.Ranges.{count-mono, count-suc, each-cong, map_each}

module _ (T : Table) where
  pub numbered-append : (cs ds : List Clause) → numbered T (cs ++ ds) ≡ numbered T cs ++ numbered T ds
  numbered-append cs ds = map-append (map (rename (number T))) cs ds

  pub numbered-each : (n : ℕ) (f : ℕ → List Clause) → numbered T (each n f) ≡ each n (λ i. numbered T (f i))
  numbered-each n f = map_each (map (rename (number T))) n f

  pub numbered-only : (b : Bool) (cs : List Clause) → numbered T (only b cs) ≡ only b (numbered T cs)
  numbered-only true cs = refl
  numbered-only false cs = refl

  -- the number of the next variable of a chain, with no search for the event: it is the next rank, or that of X
  pub number-next : (s q f k : ℕ) → f + k ≡ events T → number T (next T (suc s) (suc q) f (suc k))
      ≡ cond (ltb (count k (λ e. relevant T e (suc q))) (width T (suc q))) (variables T s + events T + (total q (width T) + count k (λ e. relevant T e (suc q)) + 1)) (variables T s + events T + pairs T + suc q)
  unfolding next number width rank
  number-next s q zero k e =
      let i : events T ≡ k = omega arith in
      let h : ltb (count k (λ e. relevant T e (suc q))) (count (events T) (λ e. relevant T e (suc q))) ≡ false = le-ltb _ _ (rw i (omega arith)) in
      rw h
  number-next s q (suc f) k e = go (relevant T (suc k) (suc q)) refl (number-next s q f (suc k) (omega arith)) (count-mono (suc k) (events T) (λ e. relevant T e (suc q)) (omega arith))
    where
      c : ℕ → ℕ
      c j = count j (λ e. relevant T e (suc q))

      go : (r : Bool) → relevant T (suc k) (suc q) ≡ r
          → number T (next T (suc s) (suc q) f (suc (suc k))) ≡ cond (ltb (c (suc k)) (c (events T))) (variables T s + events T + (total q (width T) + c (suc k) + 1)) (variables T s + events T + pairs T + suc q)
          → c (suc k) ≤ c (events T)
          → number T (cond r (V (suc s) (suc k) (suc q)) (next T (suc s) (suc q) f (suc (suc k)))) ≡ cond (ltb (c k) (c (events T))) (variables T s + events T + (total q (width T) + c k + 1)) (variables T s + events T + pairs T + suc q)
      go true i ih m =
          let n : c (suc k) ≡ c k + 1 = count-suc k (λ e. relevant T e (suc q)) ∙ ap (λ b. c k + cond b 1 0) i in
          let h : ltb (c k) (c (events T)) ≡ true = lt-ltb _ _ (omega arith) in
          rw h (omega arith)
      go false i ih m =
          let n : c (suc k) ≡ c k = count-suc k (λ e. relevant T e (suc q)) ∙ ap (λ b. c k + cond b 1 0) i ∙ omega arith in
          ih ∙ ap (λ x. cond (ltb x (c (events T))) (variables T s + events T + (total q (width T) + x + 1)) (variables T s + events T + pairs T + suc q)) n

  -- the families, over numbers
  pub numbered-start_facts : numbered T (start_facts T) ≡ each T.facts (λ p. (cond (T.initial p) (is p) (isnt p) ∷ []) ∷ [])
  unfolding number
  numbered-start_facts = numbered-each T.facts _ ∙ each-cong T.facts _ _ (λ p u v. go p (T.initial p))
    where
      go : (p : ℕ) (b : Bool) → numbered T ((cond b (is (X 0 p)) (isnt (X 0 p)) ∷ []) ∷ []) ≡ (cond b (is p) (isnt p) ∷ []) ∷ []
      go p true = refl
      go p false = refl

  pub numbered-none_open : (t : ℕ) → numbered T (none_open T t) ≡ each T.actions (λ a. (isnt (number T (O t a)) ∷ []) ∷ [])
  numbered-none_open t = numbered-each T.actions (λ a. (isnt (O t a) ∷ []) ∷ [])

  pub numbered-goal_facts : (n : ℕ) → numbered T (goal_facts T n) ≡ each T.facts (λ p. only (T.goal p) ((is (number T (X n p)) ∷ []) ∷ []))
  numbered-goal_facts n = numbered-each T.facts _ ∙ each-cong T.facts _ _ (λ p u v. numbered-only (T.goal p) _)

  pub numbered-agenda : (s : ℕ) → numbered T (agenda T s) ≡ each T.actions (λ a. agenda_of (number T (Y (suc s) (2 * a - 1))) (number T (Y (suc s) (2 * a))) (number T (O s a)) (number T (O (suc s) a)))
  unfolding agenda_of
  numbered-agenda s = numbered-each T.actions (λ a. agenda_of (Y (suc s) (2 * a - 1)) (Y (suc s) (2 * a)) (O s a) (O (suc s) a))

  numbered-turn : (r a d : Bool) (y v w : Var) → numbered T (turn r a d y v w) ≡ turn r a d (number T y) (number T v) (number T w)
  unfolding turn pass_on same same_unless
  numbered-turn true true d y v w = refl
  numbered-turn true false true y v w = refl
  numbered-turn true false false y v w = refl
  numbered-turn false true d y v w = refl
  numbered-turn false false true y v w = refl
  numbered-turn false false false y v w = refl

  pub numbered-truth_of : (s p : ℕ) → numbered T (truth_of T s p)
      ≡ same (number T (X s p)) (number T (next T (suc s) p (events T) 1))
      ++ each (events T) (λ e. only (relevant T e p) (turn (requires T e p) (T.adds e p) (T.deletes e p) (number T (Y (suc s) e)) (number T (V (suc s) e p)) (number T (next T (suc s) p (events T - e) (suc e)))))
  unfolding truth_of same turn_of
  numbered-truth_of s p = numbered-append (enter T s p) (each (events T) (turn_of T s p)) ∙ ap (λ l. numbered T (enter T s p) ++ l)
      (numbered-each (events T) (turn_of T s p) ∙ each-cong (events T) _ _ (λ e u v. numbered-only (relevant T e p) _ ∙ ap (only (relevant T e p)) (numbered-turn (requires T e p) (T.adds e p) (T.deletes e p) (Y (suc s) e) (V (suc s) e p) (next T (suc s) p (events T - e) (suc e)))))

  pub numbered-kept : (s : ℕ) → numbered T (kept T s) ≡ each (events T) (λ e. each T.actions (λ a. only (not (eqb a (owner e)) && harms T e a)
      ((isnt (number T (Y (suc s) e)) ∷ isnt (number T (O (cond (ltb a (owner e)) (suc s) s) a)) ∷ []) ∷ [])))
  unfolding kept_of
  numbered-kept s = numbered-each (events T) (λ e. each T.actions (kept_of T s e)) ∙ each-cong (events T) _ _ (λ e u v. numbered-each T.actions (kept_of T s e) ∙ each-cong T.actions _ _ (λ a w x. numbered-only (not (eqb a (owner e)) && harms T e a) _))

  -- the whole, step by step
  pub formula-is : (n : ℕ) → formula T n ≡ numbered T (start T) ++ each n (λ t. numbered T (step T t)) ++ numbered T (goal T n)
  unfolding formula clauses
  formula-is n = numbered-append (start T ++ each n (step T)) (goal T n) ∙ ap (λ l. l ++ numbered T (goal T n)) (numbered-append (start T) (each n (step T)) ∙ ap (λ l. numbered T (start T) ++ l) (numbered-each n (step T)))

  pub step_is : (s : ℕ) → numbered T (step T (suc s)) ≡ numbered T (agenda T s) ++ numbered T (kept T s) ++ each T.facts (λ p. numbered T (truth_of T s p))
  unfolding step
  step_is s = numbered-append (agenda T s ++ kept T s) (truth T s) ∙ ap₂ ◌++◌ (numbered-append (agenda T s) (kept T s)) (numbered-each T.facts (truth_of T s))

pub truth_of-numbers : (T : Table) (s q : ℕ) → numbered T (truth_of T s (suc q)) ≡ truth_at T (suc q) (variables T s) (total q (width T)) (number T (X s (suc q)))
unfolding number rank width count
truth_of-numbers T s q = numbered-truth_of T s (suc q) ∙ ap₂ (λ v l. same (number T (X s (suc q))) v ++ l) (number-next T s q (events T) 0 (omega arith))
    (each-cong (events T) _ _ (λ e u l. ap (λ w. only (relevant T e (suc q)) (turn (requires T e (suc q)) (T.adds e (suc q)) (T.deletes e (suc q)) (variables T s + e) (variables T s + events T + (total q (width T) + count e (λ e. relevant T e (suc q)))) w)) (number-next T s q (events T - e) e (omega arith))))
