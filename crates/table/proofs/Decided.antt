-- A plan has no fault exactly if it is valid.
-- Assumes nothing.
use Rattle.std.proofs.Common.{◌≡◌, ℕ, suc, ◌<◌, ◌≤◌, Bool, true, false, cond, not, ◌&&◌, ◌||◌, eqb, ltb, leb, ◌≢◌, [], ◌∷◌, length, get_or, Some, None, Option, Result, sym, refl, ap, ◌∙◌, subst, ap₂, inl, inr}
use Rattle.std.specs.List.{AllByRecursion}
use Rattle.std.proofs.ByRecursion.{All-get_or}
use Rattle.std.proofs.lemmas.Bool.{eqb-true, eq-eqb, ne_eqb, ltb-true, lt-ltb, le-leb, and_parts, and_from}
use Rattle.refusal.specs.declared.causes.Obstacle.TheVariants.{RequiredFactFalse, ActionAlreadyOpen, ActionNotOpen, HeldFactDeleted}
use Rattle.refusal.specs.declared.causes.Unmet.{Unmet}
use Rattle.refusal.specs.declared.causes.Unmet.TheVariants.{ActionLeftOpen, GoalFactFalse}
use Rattle.encoding.proofs.Ranges.{some-none, none-some}
use Rattle.encoding.specs.Tables.{Table, events, owner, starts, requires, harms}
use Rattle.encoding.specs.Plans.{State, Runs, Plan, Before, Rising, after, initially, run, Run, Placed, Valid}
use Rattle.table.specs.declared.faults.PlanFault.{PlanFault}
use Rattle.table.specs.declared.faults.PlanFault.TheVariants.{Misplaced, DoesNotRun, WrongEnding}
use Rattle.table.specs.Entries.{from}
use Rattle.std.specs.Option.{option_or, option_map}
use Rattle.table.specs.Verdicts.{lowest, in_place, comes_before, misplaced, lacks, robs, agenda_obstacle, obstacle, stuck, misses, unmet, plan_fault, plan_answer, unless_fault, Decides}
use Rattle.table.proofs.Keeps.{between}
use Rattle.table.proofs.Numbers.{or_left, or_right}
use Rattle.table.proofs.Lowest.{parts_none, none-parts, none_below, below_none}

-- Tests

but-not : (a b : Bool) → (a && not b) ≡ false → a ≡ true → b ≡ true
but-not true true h k = refl
but-not true false h k = absurd (cc)
but-not false b h k = absurd (cc)

not-both : (a b : Bool) → (a ≡ true → b ≡ true) → (a && not b) ≡ false
not-both true b h = ap not (h refl)
not-both false b h = refl

and-false : (a b : Bool) → (a && b) ≡ false → a ≡ true → b ≡ false
and-false true b h k = h
and-false false b h k = absurd (cc)

false-and : (a b : Bool) → (a ≡ true → b ≡ false) → (a && b) ≡ false
false-and true b h = h refl
false-and false b h = refl

item-none : {X Y : Type 0} (f : X → Y) (o : Option X) → option_map f o ≡ None → o ≡ None
item-none f None h = refl
item-none f (Some x) h = absurd (cc)

none-item : {X Y : Type 0} (f : X → Y) (o : Option X) → o ≡ None → option_map f o ≡ None
none-item f o h = ap (option_map f) h

-- Events

ready_of : (e : ℕ) (s : State) → agenda_obstacle e s ≡ None → s.is_open (owner e) ≡ not (starts e)
ready_of e s h = go (starts e) (s.is_open (owner e)) h where
  go : (b q : Bool) → cond b (cond q (Some (ActionAlreadyOpen (owner e))) None) (cond q None (Some (ActionNotOpen (owner e)))) ≡ None → q ≡ not b
  go true true h = absurd (cc)
  go true false h = refl
  go false true h = refl
  go false false h = absurd (cc)

of-ready : (e : ℕ) (s : State) → s.is_open (owner e) ≡ not (starts e) → agenda_obstacle e s ≡ None
of-ready e s h = go (starts e) (s.is_open (owner e)) h where
  go : (b q : Bool) → q ≡ not b → cond b (cond q (Some (ActionAlreadyOpen (owner e))) None) (cond q None (Some (ActionNotOpen (owner e)))) ≡ None
  go true true h = absurd (cc)
  go true false h = refl
  go false true h = refl
  go false false h = absurd (cc)

module _ (T : Table) (e : ℕ) (s : State) where
  pub runs_of : obstacle T e s ≡ None → Runs T e s
  unfolding harms
  runs_of h =
      let x = parts_none (option_map RequiredFactFalse (lowest T.facts (lacks T e s))) _ h in
      let y = parts_none (agenda_obstacle e s) _ x.1 in
      let lacking = none_below T.facts (lacks T e s) (item-none RequiredFactFalse _ x.0) in
      let robbing = none_below T.actions (robs T e s) (item-none HeldFactDeleted _ y.1) in
      record {
        required = λ p l u r. but-not (requires T e p) (s.holds p) (lacking p l u) r;
        ready = ready_of e s y.0;
        keeps = λ a l u other busy p v w held.
            let m = and-false (not (eqb a (owner e))) _ (robbing a l u) (ap not (ne_eqb a (owner e) other)) in
            and-false (T.held a p) (T.deletes e p) (some-none T.facts (λ q. T.held a q && T.deletes e q) (and-false (s.is_open a) _ m busy) p v w) held;
      }

  pub of-runs : Runs T e s → obstacle T e s ≡ None
  unfolding harms
  of-runs r =
      none-parts _ _ (none-item RequiredFactFalse _ (below_none T.facts (lacks T e s) (λ p l u. not-both (requires T e p) (s.holds p) (r.required p l u))))
      (none-parts _ _ (of-ready e s r.ready)
      (none-item HeldFactDeleted _ (below_none T.actions (robs T e s) (λ a l u.
      false-and (not (eqb a (owner e))) _ (λ other. false-and (s.is_open a) _ (λ busy.
      none-some T.facts (λ q. T.held a q && T.deletes e q) (λ p v w. false-and (T.held a p) (T.deletes e p) (λ held.
      r.keeps a l u (not_same a (owner e) other) busy p v w held))))))))
    where
      not_same : (a b : ℕ) → not (eqb a b) ≡ true → a ≢ b
      not_same a b h k = let w : true ≡ false = sym h ∙ ap not (eq-eqb a b k) in cc

pub run_of : (T : Table) (s : State) (k : ℕ) (π : Plan) → stuck T s k π ≡ None → Run T s π
unfolding stuck
run_of T s k [] h = tt
run_of T s k (x ∷ π) h =
    let y = parts_none (option_map (DoesNotRun k) (obstacle T x.1 s)) _ h in
    (runs_of T x.1 s (item-none (DoesNotRun k) _ y.0), run_of T (after T x.1 s) (suc k) π y.1)

pub of-run : (T : Table) (s : State) (k : ℕ) (π : Plan) → Run T s π → stuck T s k π ≡ None
unfolding stuck
of-run T s k [] h = refl
of-run T s k (x ∷ π) h = none-parts _ _ (none-item (DoesNotRun k) _ (of-runs T x.1 s h.0)) (of-run T (after T x.1 s) (suc k) π h.1)

-- Pairs

abbrev RisesFrom : (ℕ × ℕ) → Plan → Type 0
RisesFrom x [] = Unit {0}
RisesFrom x (y ∷ π) = Before x y × RisesFrom y π

rising-from : (x : ℕ × ℕ) (π : Plan) → RisesFrom x π → Rising (x ∷ π)
rising-from x [] h = tt
rising-from x (y ∷ π) h = (h.0, rising-from y π h.1)

from-rising : (x : ℕ × ℕ) (π : Plan) → Rising (x ∷ π) → RisesFrom x π
from-rising x [] h = tt
from-rising x (y ∷ π) h = (h.0, from-rising y π h.1)

before_of : (x y : ℕ × ℕ) → comes_before x y ≡ true → Before x y
before_of x y h = go (ltb x.0 y.0) refl h where
  go : (b : Bool) → ltb x.0 y.0 ≡ b → (b || (eqb x.0 y.0 && ltb x.1 y.1)) ≡ true → Before x y
  go true e k = inl (ltb-true x.0 y.0 e)
  go false e k =
      let z = and_parts (eqb x.0 y.0) (ltb x.1 y.1) k in inr (eqb-true x.0 y.0 z.0, ltb-true x.1 y.1 z.1)

of-before : (x y : ℕ × ℕ) → Before x y → comes_before x y ≡ true
of-before x y (inl h) = or_left _ _ (lt-ltb x.0 y.0 h)
of-before x y (inr h) = or_right (ltb x.0 y.0) _ (and_from _ _ (eq-eqb x.0 y.0 h.0) (lt-ltb x.1 y.1 h.1))

in-of : (low high n : ℕ) → low ≤ n → n ≤ high → from low high n ≡ true
in-of low high n l u = and_from (leb low n) (leb n high) (le-leb low n l) (le-leb n high u)

placed_of : (T : Table) (n : ℕ) (x : ℕ × ℕ) → in_place T n x ≡ true → Placed T n x
placed_of T n x h =
    let y = and_parts (from 1 n x.0) (from 1 (events T) x.1) h in
    let u = between 1 n x.0 y.0 in let v = between 1 (events T) x.1 y.1 in (u.0, u.1, v.0, v.1)

of-placed : (T : Table) (n : ℕ) (x : ℕ × ℕ) → Placed T n x → in_place T n x ≡ true
of-placed T n x h = and_from _ _ (in-of 1 n x.0 h.0 h.1) (in-of 1 (events T) x.1 h.2 h.3)

passed : (b : Bool) (o : Option ℕ) (k : ℕ) → cond b o (Some k) ≡ None → (b ≡ true) × (o ≡ None)
passed true o k h = (refl, h)
passed false o k h = absurd (cc)

pub order-of : (T : Table) (n : ℕ) (before : ℕ × ℕ) (k : ℕ) (π : Plan) → misplaced T n before k π ≡ None → AllByRecursion (Placed T n) π × RisesFrom before π
unfolding misplaced
order-of T n before k [] h = (tt, tt)
order-of T n before k (x ∷ π) h =
    let y = passed (in_place T n x && comes_before before x) _ k h in
    let z = and_parts (in_place T n x) (comes_before before x) y.0 in
    let r = order-of T n x (suc k) π y.1 in
    ((placed_of T n x z.0, r.0), (before_of before x z.1, r.1))

of-order : (T : Table) (n : ℕ) (before : ℕ × ℕ) (k : ℕ) (π : Plan) → AllByRecursion (Placed T n) π → RisesFrom before π → misplaced T n before k π ≡ None
unfolding misplaced
of-order T n before k [] p r = refl
of-order T n before k (x ∷ π) p r =
    ap (λ b. cond b (misplaced T n x (suc k) π) (Some k)) (and_from _ _ (of-placed T n x p.0) (of-before before x r.0))
    ∙ of-order T n x (suc k) π p.1 r.1

rising-of : (π : Plan) → RisesFrom (0, 0) π → Rising π
rising-of [] h = tt
rising-of (x ∷ π) h = rising-from x π h.1

of_rising : (T : Table) (n : ℕ) (π : Plan) → AllByRecursion (Placed T n) π → Rising π → RisesFrom (0, 0) π
of_rising T n [] p h = tt
of_rising T n (x ∷ π) p h = (inl p.0.0, from-rising x π h)

-- Plans

pub valid-of : (T : Table) (n : ℕ) (π : Plan) → plan_fault T n π ≡ None → Valid T n π
unfolding plan_fault
valid-of T n π h =
    let x = parts_none (option_map Misplaced (misplaced T n (0, 0) 1 π)) _ h in
    let y = parts_none (stuck T (initially T) 1 π) _ x.1 in
    let o = order-of T n (0, 0) 1 π (item-none Misplaced _ x.0) in
    let z = parts_none (option_map ActionLeftOpen (lowest T.actions (run T (initially T) π).is_open)) _ (item-none WrongEnding _ y.1) in
    record {
      placed = o.0;
      rising = rising-of π o.1;
      runs = run_of T (initially T) 1 π y.0;
      goals = λ p l u g. but-not (T.goal p) _ (none_below T.facts (misses T (run T (initially T) π)) (item-none GoalFactFalse _ z.1) p l u) g;
      closed = none_below T.actions (run T (initially T) π).is_open (item-none ActionLeftOpen _ z.0);
    }

pub of-valid : (T : Table) (n : ℕ) (π : Plan) → Valid T n π → plan_fault T n π ≡ None
unfolding plan_fault
of-valid T n π v =
    none-parts _ _ (none-item Misplaced _ (of-order T n (0, 0) 1 π v.placed (of_rising T n π v.placed v.rising)))
    (none-parts _ _ (of-run T (initially T) 1 π v.runs)
    (none-item WrongEnding _ (none-parts _ _ (none-item ActionLeftOpen _ (below_none T.actions (run T (initially T) π).is_open v.closed))
    (none-item GoalFactFalse _ (below_none T.facts (misses T (run T (initially T) π)) (λ p l u. not-both (T.goal p) _ (v.goals p l u)))))))

pub decided : (T : Table) (n : ℕ) (π : Plan) (r : Result (Unit {0}) PlanFault) → r ≡ plan_answer T n π → Decides T n π r
decided T n π r e = subst (Decides T n π) (sym e) (go (plan_fault T n π) refl) where
  go : (o : Option PlanFault) → plan_fault T n π ≡ o → Decides T n π (unless_fault tt o)
  go None h = (λ k. valid-of T n π h, λ v. refl)
  go (Some f) h = (λ k. absurd (cc), λ v. let w = sym h ∙ of-valid T n π v in absurd (cc))

-- The fault, by what was found

module _ (T : Table) (n : ℕ) (π : Plan) where
  pub at_pair : (place : ℕ) → Some place ≡ misplaced T n (0, 0) 1 π → Some (Misplaced place) ≡ plan_fault T n π
  unfolding plan_fault
  at_pair place h =
      ap (λ (m : Option ℕ). option_or (option_map Misplaced m) (option_or (stuck T (initially T) 1 π) (option_map WrongEnding (unmet T (run T (initially T) π))))) h

  module _ (ordered : None ≡ misplaced T n (0, 0) 1 π) where
    in_order : option_or (stuck T (initially T) 1 π) (option_map WrongEnding (unmet T (run T (initially T) π))) ≡ plan_fault T n π
    unfolding plan_fault
    in_order =
        ap (λ (m : Option ℕ). option_or (option_map Misplaced m) (option_or (stuck T (initially T) 1 π) (option_map WrongEnding (unmet T (run T (initially T) π))))) ordered

    pub at-event : (f : PlanFault) → stuck T (initially T) 1 π ≡ Some f → Some f ≡ plan_fault T n π
    at-event f h = ap (λ (m : Option PlanFault). option_or m (option_map WrongEnding (unmet T (run T (initially T) π)))) (sym h) ∙ in_order

    pub at-end : stuck T (initially T) 1 π ≡ None → (s : State) → s ≡ run T (initially T) π → (u : Option Unmet) → u ≡ unmet T s → option_map WrongEnding u ≡ plan_fault T n π
    at-end h s e u k =
        ap (option_map WrongEnding) k ∙ ap₂ (λ (m : Option PlanFault) (v : State). option_or m (option_map WrongEnding (unmet T v))) (sym h) e ∙ in_order

    -- every event of a plan in order is one of the table's
    pub events-within : (k : ℕ) → k < length π → (get_or π k (0, 0)).1 ≤ events T
    events-within k l = (All-get_or (Placed T n) π k (0, 0) l (order-of T n (0, 0) 1 π (sym ordered)).0).3
