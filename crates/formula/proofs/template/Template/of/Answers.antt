-- Each listing has room for its family, and is its family, within the limits at every step.
-- Assumes nothing.
use Rattle.std.proofs.Common.{◌≡◌, ℕ, ◌≤◌, List, length, ap, ◌∙◌, subst, arith}
use Rattle.encoding.specs.Clauses.{Clause, agenda as agenda', goal as goal', kept as kept', numbered, start as start', truth as truth'}
use Rattle.encoding.specs.Tables.{Table}
use Rattle.encoding.specs.Theorem.{Small}
use Rattle.encoding.specs.Variables.{step_size}
use Rattle.encoding.proofs.Bounds.{bounded}
use Rattle.table.specs.Model.{meant}
use Rattle.formula.specs.declared.listing.Listing.{Listing}
use Rattle.formula.specs.Layouts.{table_in}
use Rattle.formula.specs.Listings.{Joined, listed}
use Rattle.formula.proofs.Bounds.{agenda-length, goal-length, kept-length, start-length, truth-length}
use Rattle.formula.specs.Templates.{Templated}
use Rattle.formula.proofs.Joining.{filled}
use Rattle.formula.proofs.Lawful.{agenda-lawful, goal-lawful, kept-lawful, start-lawful, truth-lawful}
use Rattle.formula.proofs.Unrolling.{tagged_is, unrolled-is}
use Rattle.formula.proofs.template.Template.of.Goals as goal

-- the family of a table that is equal
made : {N : ℕ} (S T : Table) (s t : Listing N) (f : Table → List Clause) → S ≡ T → s.count ≡ 0 → length (numbered T (f T)) ≤ N → Joined s t (numbered S (f S)) → listed t ≡ numbered T (f T)
made S T s t f e z h j = filled s t (numbered T (f T)) z h (subst (λ U. Joined s t (numbered U (f U))) e j)

-- what the parts of the template are
record Parts (T : Table) (start : Listing 48) (agenda : Listing 96) (kept : Listing 512) (truth : Listing 4160) (goal : Listing 48) (size : ℕ) : Type 0 where
  start_is : listed start ≡ numbered T (start' T)
  agenda_is : listed agenda ≡ numbered T (agenda' T 0)
  kept_is : listed kept ≡ numbered T (kept' T 0)
  truth_is : listed truth ≡ numbered T (truth' T 0)
  goal_is : listed goal ≡ numbered T (goal' T 0)
  size_is : size ≡ step_size T

parts : (c : goal.After-step_size-step_size) → Parts (meant c.args.table.now) c.put_start.new.out c.put_agenda.new.out c.put_kept.new.out c.put_truth.new.out c.put_goal.new.out c.step_size-step_size.result
parts c =
    let T = meant c.args.table.now in
    let S = table_in c.of-layout.result in
    let e : S ≡ T = ap meant c.of-layout.ensures in
    let limits : Small T = (c.args.table.now.sizes.1, c.args.table.now.sizes.3) in
    record {
      start_is = made S T c.none-start.result c.put_start.new.out start' e c.none-start.ensures (start-length T limits) c.put_start.ensures;
      agenda_is = made S T c.none-agenda.result c.put_agenda.new.out (λ U. agenda' U 0) e c.none-agenda.ensures (agenda-length T limits) c.put_agenda.ensures;
      kept_is = made S T c.none-kept.result c.put_kept.new.out (λ U. kept' U 0) e c.none-kept.ensures (kept-length T limits) c.put_kept.ensures;
      truth_is = made S T c.none-truth.result c.put_truth.new.out (λ U. truth' U 0) e c.none-truth.ensures (truth-length T limits) c.put_truth.ensures;
      goal_is = made S T c.none-goal.result c.put_goal.new.out (λ U. goal' U 0) e c.none-goal.ensures (goal-length T limits) c.put_goal.ensures;
      size_is = c.step_size-step_size.ensures ∙ ap step_size e;
    }

pub invariant_of-result : goal.invariant_of-result
unfolding step_size
invariant_of-result c =
    let T = meant c.args.table.now in
    let limits : Small T = (c.args.table.now.sizes.1, c.args.table.now.sizes.3) in
    let n = bounded.pairs_fit T limits in
    let p = parts c in
    let e = p.size_is in
    record {
      small = omega (arith, limits.0, limits.1);
      start_in = rw p.start_is (start-lawful T limits);
      agenda_in = λ s l. rw (e, p.agenda_is) (agenda-lawful T limits s l);
      kept_in = λ s l. rw (e, p.kept_is) (kept-lawful T limits s l);
      truth_in = λ s l. rw (e, p.truth_is) (truth-lawful T limits s l);
      goal_in = λ n l. rw (e, p.goal_is) (goal-lawful T limits n l);
    }

pub returns : goal.returns
returns c =
    let p = parts c.before in
    let f : Templated (meant c.args.table.now) _ = record { start = p.start_is; agenda = p.agenda_is; kept = p.kept_is; truth = p.truth_is; goal = p.goal_is; size = p.size_is } in
    record { families = f; unrolls = unrolled-is (meant c.args.table.now) _ f; labels = tagged_is (meant c.args.table.now) _ f }
