-- The store after a put: its memory from the write of the clause, and from that the clauses read back.
use Rattle.std.proofs.Common.{◌+◌, ◌<◌, ◌≤◌, length, refl, arith, rules}
use Rattle.store.proofs.Meaning.{clause-parts, cost-by}
use Rattle.store.proofs.Runs.{count_low, wrote}
use Rattle.store.proofs.numbers.NumberStore.join.Goals as goal

pub overflow_add-self-3 : goal.overflow_add-self-3
overflow_add-self-3 c =
    let o = c.args.self.now in
    let l : length o.numbers.now < 9223372036854775808 = search rules in
    omega (arith, count_low o.numbers.now o.used o.count o.within o.laid o.counted)

pub write_clause-requires : goal.write_clause-requires
write_clause-requires c =
    let p = clause-parts c.args.clause.literals.now c.args.clause.lawful in
    omega (arith, cost-by (λ k. k + 1) (length c.args.clause.literals.now) p.0 p.1, c.requires)

pub invariant_of-self : goal.invariant_of-self
invariant_of-self c =
    let o = c.args.self.now in
    let p = clause-parts c.args.clause.literals.now c.args.clause.lawful in
    let k = cost-by (λ k. k + 1) (length c.args.clause.literals.now) p.0 p.1 in
    let f : o.used + (length c.args.clause.literals.now + 1) ≤ length o.numbers.now = omega (arith, k, c.requires) in
    let w = wrote o.numbers.now o.used o.count o.within o.laid o.counted c.args.clause.literals.now c.write_clause.new.numbers p.2 f c.write_clause.ensures in
    record { within = omega (arith, w.same_length); laid = w.laid; counted = w.counted }

pub returns : goal.returns
returns c =
    let o = c.args.self.now in
    let p = clause-parts c.args.clause.literals.now c.args.clause.lawful in
    let k = cost-by (λ k. k + 1) (length c.args.clause.literals.now) p.0 p.1 in
    let f : o.used + (length c.args.clause.literals.now + 1) ≤ length o.numbers.now = omega (arith, k, c.requires) in
    let w = wrote o.numbers.now o.used o.count o.within o.laid o.counted c.args.clause.literals.now c.write_clause.new.numbers p.2 f c.write_clause.ensures in
    record {
      joins = record { lawful = c.args.clause.lawful; room = c.requires; held = w.held; units = omega (arith, k, w.same_length) };
      grows = record { same_lender = refl; same_length = w.same_length; used_more = omega arith; beyond = w.beyond };
    }
