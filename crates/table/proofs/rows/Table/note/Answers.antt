-- A granted note is written, and the table keeps what every table keeps.
-- Assumes nothing.
use Rattle.std.proofs.Common.{◌≡◌, length, Option, ap, ◌∙◌, rules}
use Rattle.table.specs.declared.roles.Role.{Role}
use Rattle.table.specs.Roles.{role_of}
use Rattle.table.specs.Calls.{answer_by, written_by}
use Rattle.table.specs.Model.{entries_of}
use Rattle.table.proofs.Numbers.{named}
use Rattle.table.proofs.Keeps.{done}
use Rattle.table.proofs.Written.{keeps, with-note}
use Rattle.table.proofs.rows.Table.note.Goals as goal

pub invariant_of-self : goal.invariant_of-self
invariant_of-self c =
    let t = c.args.self.now in
    let long : length t.rows ≡ 10 = search rules in
    let k = keeps t.facts t.actions t.rows c.in_ok-known.known c.from.result c.args.action c.args.fact c.add.new.self c.from.ensures t.sizes
    c.in_ok-permits_note.ensures long c.add.ensures t.within t.apart in
    record { sizes = t.sizes; within = k.0; apart = k.1; counted = k.2 }

pub returns : goal.returns
returns c =
    let t = c.args.self.now in
    let long : length t.rows ≡ 10 = search rules in
    let e = c.in_ok-permits_note.ensures in
    let role = named c.in_ok-known.known (role_of c.args.role) c.in_ok-known.ensures in
    let answer = e ∙ ap (λ (o : Option Role). answer_by o (entries_of t) c.args.action c.args.fact) role in
    record {
      answer = answer;
      after = done _ _ _ _ answer
          (with-note t.facts t.actions t.rows c.in_ok-known.known c.from.result c.args.action c.args.fact c.add.new.self c.from.ensures t.sizes
          e long c.add.ensures
          ∙ ap (λ (o : Option Role). written_by o (entries_of t) c.args.action c.args.fact) role);
    }
