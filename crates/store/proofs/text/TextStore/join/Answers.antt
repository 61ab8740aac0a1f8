-- The store after a put: its memory from the write of the line and the header, and from that the clauses read back.
use Rattle.std.proofs.Common.{refl, arith}
use Rattle.store.proofs.Texts.{put_behind, put_few, put-wrote, put-within, put-units}
use Rattle.store.proofs.text.TextStore.join.Goals as goal

pub joined-header-requires : goal.joined-header-requires
joined-header-requires c = put_few c.args.self.now c.args.clause.literals.now c.args.clause.lawful c.requires

pub write_clause-requires-clause-behind : goal.write_clause-requires-clause-behind
write_clause-requires-clause-behind c = put_behind c.args.self.now c.args.clause.literals.now c.args.clause.lawful c.requires

pub invariant_of-self : goal.invariant_of-self
invariant_of-self c =
    let o = c.args.self.now in
    let h = c.joined-header in
    let w = put-wrote o c.args.clause.literals.now c.args.clause.lawful c.requires h.result.largest h.result.count c.write_clause.new.bytes h.ensures.largest h.ensures.count c.write_clause.ensures in
    record { within = put-within o c.args.clause.literals.now c.args.clause.lawful c.requires c.write_clause.new.bytes w.same_length; shown = w.shown; counted = w.counted; greatest = w.greatest }

pub returns : goal.returns
returns c =
    let o = c.args.self.now in
    let h = c.joined-header in
    let w = put-wrote o c.args.clause.literals.now c.args.clause.lawful c.requires h.result.largest h.result.count c.write_clause.new.bytes h.ensures.largest h.ensures.count c.write_clause.ensures in
    record {
      joins = record {
        lawful = c.args.clause.lawful;
        room = c.requires;
        held = w.held;
        units = put-units o c.args.clause.literals.now c.args.clause.lawful c.requires c.write_clause.new.bytes w.same_length;
      };
      grows = record { same_lender = refl; same_length = w.same_length; used_more = omega arith; beyond = w.beyond };
    }
