-- The three families, one after another.
-- Assumes nothing.
use Rattle.std.proofs.Common.{◌*◌, ◌++◌, sym, ap, ◌∙◌, ap₂}
use Rattle.formula.specs.declared.template.Family.TheVariants.{Agenda, Kept, Truth}
use Rattle.formula.specs.Listings.{shifted}
use Rattle.formula.specs.Templates.{said}
use Rattle.encoder.specs.Puts.{signs}
use Rattle.encoder.proofs.Adding.{adds-more, adds-two}
use Rattle.encoder.proofs.Moved.{signs-append}
use Rattle.encoder.proofs.Steps.{family-is}
use Rattle.encoder.proofs.emission.put_step.Goals as goal

pub put_all-requires : goal.put_all-requires
put_all-requires g c = rw (c.family.ensures, c.step_size.ensures) (c.args.template.now.agenda_in c.args.step c.requires)

pub put_all-requires-2 : goal.put_all-requires-2
put_all-requires-2 g c = rw (c.family-2.ensures, c.step_size.ensures) (c.args.template.now.kept_in c.args.step c.requires)

pub put_all-requires-3 : goal.put_all-requires-3
put_all-requires-3 g c = rw (c.family-3.ensures, c.step_size.ensures) (c.args.template.now.truth_in c.args.step c.requires)

pub returns : goal.returns
returns g c =
    let S = g.S.ClauseStore in
    let k = ap (λ k. c.args.step * k) c.step_size.ensures in
    let a = ap signs (family-is c.args.template.now Agenda _ _ _ k c.family.ensures) in
    let b = ap signs (family-is c.args.template.now Kept _ _ _ k c.family-2.ensures) in
    let d = ap signs (family-is c.args.template.now Truth _ _ _ k c.family-3.ensures) in
    let A = shifted (c.args.step * c.args.template.now.step_size) (said c.args.template.now Agenda) in
    let K = shifted (c.args.step * c.args.template.now.step_size) (said c.args.template.now Kept) in
    let V = shifted (c.args.step * c.args.template.now.step_size) (said c.args.template.now Truth) in
    record {
      puts = adds-two S.held S.units S.prices c.args.store.now c.put_all-2.new.store c.put_all-3.new.store _ _ _
          (adds-more S.held S.units S.prices c.args.store.now c.put_all.new.store c.put_all-2.new.store _ _ c.put_all.ensures.puts c.put_all-2.ensures.puts) c.put_all-3.ensures.puts
          (ap₂ ◌++◌ (ap₂ ◌++◌ a b) d ∙ ap (λ xs. xs ++ signs V) (sym (signs-append A K)) ∙ sym (signs-append (A ++ K) V));
      grows = S.growth.more c.args.store.now c.put_all-2.new.store c.put_all-3.new.store (S.growth.more c.args.store.now c.put_all.new.store c.put_all-2.new.store c.put_all.ensures.grows c.put_all-2.ensures.grows) c.put_all-3.ensures.grows;
    }
