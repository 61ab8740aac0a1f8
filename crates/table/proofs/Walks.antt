-- Plans walked place by place, as the loops do.
-- Assumes nothing.
use Rattle.std.proofs.Common.{◌≡◌, ℕ, zero, suc, ◌+◌, ◌<◌, ◌≤◌, true, false, cond, ◌&&◌, [], ◌∷◌, length, get_or, drop, Some, None, Option, sym, ap, ◌∙◌, ap₂, add-one, arith, drop_of_length-le, drop-cons}
use Rattle.refusal.specs.declared.causes.Obstacle.{Obstacle}
use Rattle.encoding.specs.Tables.{Table, events}
use Rattle.encoding.specs.Plans.{State, Plan, after, run}
use Rattle.table.specs.declared.faults.PlanFault.TheVariants.{DoesNotRun}
use Rattle.std.proofs.lemmas.Bool.{and_parts}
use Rattle.table.specs.Entries.{from}
use Rattle.std.specs.Option.{option_or, option_map}
use Rattle.table.specs.Verdicts.{in_place, comes_before, misplaced, obstacle, stuck, events_in}
use Rattle.table.proofs.Keeps.{between}

module _ (π : Plan) (i : ℕ) (d : ℕ × ℕ) (here : i < length π) where
  split : drop i π ≡ get_or π i d ∷ drop (i + 1) π
  split = drop-cons π i d here ∙ ap (λ j. get_or π i d ∷ drop j π) (sym (add-one i))

  module _ (T : Table) (n : ℕ) (before : ℕ × ℕ) (k : ℕ) where
    pub misplaced-next : (in_place T n (get_or π i d) && comes_before before (get_or π i d)) ≡ true
        → misplaced T n (get_or π i d) (k + 1) (drop (i + 1) π) ≡ misplaced T n before k (drop i π)
    unfolding misplaced
    misplaced-next h =
        ap (λ j. misplaced T n (get_or π i d) j (drop (i + 1) π)) (add-one k)
        ∙ sym (ap (misplaced T n before k) split ∙ ap (λ b. cond b (misplaced T n (get_or π i d) (suc k) (drop (i + 1) π)) (Some k)) h)

    pub misplaced-here : (in_place T n (get_or π i d) && comes_before before (get_or π i d)) ≡ false → misplaced T n before k (drop i π) ≡ Some k
    unfolding misplaced
    misplaced-here h = ap (misplaced T n before k) split ∙ ap (λ b. cond b (misplaced T n (get_or π i d) (suc k) (drop (i + 1) π)) (Some k)) h

  module _ (T : Table) (s : State) (k : ℕ) where
    pub stuck-next : (u : State) → u ≡ after T (get_or π i d).1 s → obstacle T (get_or π i d).1 s ≡ None
        → stuck T u (k + 1) (drop (i + 1) π) ≡ stuck T s k (drop i π)
    unfolding stuck
    stuck-next u e h =
        ap₂ (λ (v : State) j. stuck T v j (drop (i + 1) π)) e (add-one k)
        ∙ sym (ap (stuck T s k) split ∙ ap (λ (o : Option Obstacle). option_or (option_map (DoesNotRun k) o) (stuck T (after T (get_or π i d).1 s) (suc k) (drop (i + 1) π))) h)

    pub stuck-here : (o : Obstacle) → obstacle T (get_or π i d).1 s ≡ Some o → stuck T s k (drop i π) ≡ Some (DoesNotRun k o)
    unfolding stuck
    stuck-here o h =
        ap (stuck T s k) split ∙ ap (λ (x : Option Obstacle). option_or (option_map (DoesNotRun k) x) (stuck T (after T (get_or π i d).1 s) (suc k) (drop (i + 1) π))) h

  pub run-next : (T : Table) (s u : State) → u ≡ after T (get_or π i d).1 s → run T u (drop (i + 1) π) ≡ run T s (drop i π)
  unfolding run
  run-next T s u e = ap (λ (v : State). run T v (drop (i + 1) π)) e ∙ sym (ap (run T s) split)

module _ (π : Plan) (i : ℕ) (past : length π ≤ i) where
  pub misplaced-end : (T : Table) (n : ℕ) (before : ℕ × ℕ) (k : ℕ) → misplaced T n before k (drop i π) ≡ None
  unfolding misplaced
  misplaced-end T n before k = ap (misplaced T n before k) (drop_of_length-le π past)

  pub stuck-end : (T : Table) (s : State) (k : ℕ) → stuck T s k (drop i π) ≡ None
  unfolding stuck
  stuck-end T s k = ap (stuck T s k) (drop_of_length-le π past)

  pub run_end : (T : Table) (s : State) → s ≡ run T s (drop i π)
  unfolding run
  run_end T s = sym (ap (run T s) (drop_of_length-le π past))

-- each event is one of the table's, if all are
pub event-within : (T : Table) (π : Plan) (k : ℕ) → events_in T π ≡ true → k < length π → (get_or π k (0, 0)).1 ≤ events T
event-within T [] k h l = absurd (omega arith)
event-within T (x ∷ π) zero h l = (between 1 (events T) x.1 (and_parts (from 1 (events T) x.1) (events_in T π) h).0).1
event-within T (x ∷ π) (suc k) h l = event-within T π k (and_parts (from 1 (events T) x.1) (events_in T π) h).1 (omega arith)
