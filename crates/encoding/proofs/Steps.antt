-- What the clauses of one step say.
-- Assumes nothing.
use Rattle.std.proofs.Common.{◌≡◌, ℕ, suc, ◌-◌, ◌*◌, Bool, true, false, cond, not, ◌&&◌, ◌||◌, eqb, ltb, ◌≢◌, List, ◌++◌, arith}
use Rattle.std.proofs.ByRecursion.{All-append}
use Rattle.std.proofs.lemmas.Bool.{ne_eqb, and_from, and_parts, not-true, not_from_false, eqb-false}
use Rattle.encoding.specs.Ranges.{Each}
use Rattle.encoding.specs.Tables.{Table, events, harms, owner, relevant, requires}
use Rattle.encoding.specs.Variables.{O, V, Var, X, Y}
use Rattle.encoding.specs.Clauses.{Clause, Satisfies, agenda, clause_holds, enter, kept, kept_of, next, step, truth, truth_of, turn_of}
use Rattle.encoding.proofs.Ranges.{all-each, all_left, all_right, each_all, in-only, only-in}
use Rattle.encoding.proofs.Says.{Agenda, Turn, agenda-satisfied, agenda-says, same-satisfied, same-says, turn-satisfied, turn-says}
use Rattle.encoding.proofs.Walks.{Turns}

pub record Step (T : Table) (τ : Var → Bool) (s : ℕ) : Type 0 where
  pub agenda : Each T.actions (λ a. Agenda (τ (Y (suc s) (2 * a - 1))) (τ (Y (suc s) (2 * a))) (τ (O s a)) (τ (O (suc s) a)))
  pub kept : Each (events T) (λ e. Each T.actions (λ a. a ≢ owner e → harms T e a ≡ true → τ (Y (suc s) e) ≡ true → τ (O (cond (ltb a (owner e)) (suc s) s) a) ≡ false))
  pub enters : Each T.facts (λ p. τ (X s p) ≡ τ (next T (suc s) p (events T) 1))
  pub turns : Each T.facts (λ p. Turns T (λ e. τ (Y (suc s) e)) τ (suc s) p)

module _ (T : Table) (τ : Var → Bool) where
  abbrev Good : List Clause → Type 0
  Good cs = Satisfies τ cs

  abbrev IsGood : Clause → Type 0
  IsGood c = clause_holds τ c ≡ true

  kept-says : (s e a : ℕ) → Good (kept_of T s e a) → a ≢ owner e → harms T e a ≡ true → τ (Y (suc s) e) ≡ true → τ (O (cond (ltb a (owner e)) (suc s) s) a) ≡ false
  unfolding kept_of
  kept-says s e a h ne b y = go (τ (Y (suc s) e)) (τ (O (cond (ltb a (owner e)) (suc s) s) a)) y (only-in IsGood (not (eqb a (owner e)) && harms T e a) _ h (and_from (not (eqb a (owner e))) (harms T e a) (not_from_false (eqb a (owner e)) (ne_eqb a (owner e) ne)) b)).0
    where
      go : (y o : Bool) → y ≡ true → (not y || (not o || false)) ≡ true → o ≡ false
      go y o p q = grind arith

  kept-satisfied : (s e a : ℕ) → (a ≢ owner e → harms T e a ≡ true → τ (Y (suc s) e) ≡ true → τ (O (cond (ltb a (owner e)) (suc s) s) a) ≡ false) → Good (kept_of T s e a)
  unfolding kept_of
  kept-satisfied s e a h = in-only IsGood (not (eqb a (owner e)) && harms T e a) _ (λ b.
      let q = and_parts (not (eqb a (owner e))) (harms T e a) b in
      (go (τ (Y (suc s) e)) (τ (O (cond (ltb a (owner e)) (suc s) s) a)) (h (λ i. eqb-false a (owner e) (not-true (eqb a (owner e)) q.0) i) q.1), tt))
    where
      go : (y o : Bool) → (y ≡ true → o ≡ false) → (not y || (not o || false)) ≡ true
      go y o p = grind arith

  turn_of-says : (s p e : ℕ) → Good (turn_of T s p e) → relevant T e p ≡ true
      → Turn (requires T e p) (T.adds e p) (T.deletes e p) (τ (Y (suc s) e)) (τ (V (suc s) e p)) (τ (next T (suc s) p (events T - e) (suc e)))
  unfolding turn_of
  turn_of-says s p e h r = turn-says τ (requires T e p) (T.adds e p) (T.deletes e p) (Y (suc s) e) (V (suc s) e p) (next T (suc s) p (events T - e) (suc e)) (only-in IsGood (relevant T e p) _ h r)

  turn_of-satisfied : (s p e : ℕ) → (relevant T e p ≡ true → Turn (requires T e p) (T.adds e p) (T.deletes e p) (τ (Y (suc s) e)) (τ (V (suc s) e p)) (τ (next T (suc s) p (events T - e) (suc e)))) → Good (turn_of T s p e)
  unfolding turn_of
  turn_of-satisfied s p e h = in-only IsGood (relevant T e p) _ (λ r. turn-satisfied τ (requires T e p) (T.adds e p) (T.deletes e p) (Y (suc s) e) (V (suc s) e p) (next T (suc s) p (events T - e) (suc e)) (h r))

  pub step-says : (s : ℕ) → Good (step T (suc s)) → Step T τ s
  unfolding step truth_of
  step-says s h =
      let l = all_left IsGood (agenda T s ++ kept T s) (truth T s) h in
      let l₁ = all_left IsGood (agenda T s) (kept T s) l in
      let l₂ = all_right IsGood (agenda T s) (kept T s) l in
      let l₃ = all_right IsGood (agenda T s ++ kept T s) (truth T s) h in
      record {
        agenda = λ a u v. agenda-says τ (Y (suc s) (2 * a - 1)) (Y (suc s) (2 * a)) (O s a) (O (suc s) a) (all-each IsGood T.actions _ l₁ a u v);
        kept = λ e u v a u' v'. kept-says s e a (all-each IsGood T.actions (kept_of T s e) (all-each IsGood (events T) _ l₂ e u v) a u' v');
        enters = λ p u v. same-says τ (X s p) (next T (suc s) p (events T) 1) (all_left IsGood (enter T s p) _ (all-each IsGood T.facts (truth_of T s) l₃ p u v));
        turns = λ p u v e u' v' r. turn_of-says s p e (all-each IsGood (events T) (turn_of T s p) (all_right IsGood (enter T s p) _ (all-each IsGood T.facts (truth_of T s) l₃ p u v)) e u' v') r;
      }

  pub step-satisfied : (s : ℕ) → Step T τ s → Good (step T (suc s))
  unfolding step truth_of
  step-satisfied s h =
      All-append IsGood (agenda T s ++ kept T s) (truth T s)
      (All-append IsGood (agenda T s) (kept T s)
      (each_all IsGood T.actions _ (λ a u v. agenda-satisfied τ (Y (suc s) (2 * a - 1)) (Y (suc s) (2 * a)) (O s a) (O (suc s) a) (h.agenda a u v)))
      (each_all IsGood (events T) _ (λ e u v. each_all IsGood T.actions (kept_of T s e) (λ a u' v'. kept-satisfied s e a (h.kept e u v a u' v')))))
      (each_all IsGood T.facts (truth_of T s) (λ p u v. All-append IsGood (enter T s p) _
      (same-satisfied τ (X s p) (next T (suc s) p (events T) 1) (h.enters p u v))
      (each_all IsGood (events T) (turn_of T s p) (λ e u' v'. turn_of-satisfied s p e (h.turns p u v e u' v')))))
