-- One step more at each turn; the start's clauses before them and the goal's after them.
-- Assumes nothing.
use Rattle.std.proofs.Common.{◌≡◌, ◌*◌, sym, ap, subst, arith}
use Rattle.formula.specs.declared.template.Family.TheVariants.{Goal}
use Rattle.encoder.specs.Puts.{Adds, signs}
use Rattle.encoder.proofs.Adding.{adds-more, adds_none, adds-two}
use Rattle.encoder.proofs.Steps.{alone-more, alone-none, family-is, signs-whole, start_is, steps_alone}
use Rattle.encoder.proofs.emission.put_list.Goals as goal

pub put_all-requires : goal.put_all-requires
put_all-requires g c = rw c.family.ensures c.args.template.now.start_in

pub loop-step-init : goal.loop-step-init
loop-step-init g c = (
  subst (Adds g.S.ClauseStore.held g.S.ClauseStore.units g.S.ClauseStore.prices c.put_all.new.store c.put_all.new.store) (sym (alone-none c.args.template.now)) (adds_none _ _ _ c.put_all.new.store),
  g.S.ClauseStore.growth.none c.put_all.new.store,
)

pub loop-step-preserved : goal.loop-step-preserved
loop-step-preserved g c = (
  adds-two g.S.ClauseStore.held g.S.ClauseStore.units g.S.ClauseStore.prices c.put_all.new.store c.loop-step.store c.put_step.new.store _ _ _ c.loop-step.invariant.0 c.put_step.ensures.puts (alone-more c.args.template.now c.loop-step.step),
  g.S.ClauseStore.growth.more c.put_all.new.store c.loop-step.store c.put_step.new.store c.loop-step.invariant.1 c.put_step.ensures.grows,
)

pub put_all-requires-2 : goal.put_all-requires-2
put_all-requires-2 g c = rw (c.family-2.ensures, c.step_size.ensures) (c.args.template.now.goal_in c.args.steps.count c.args.steps.few)

pub returns : goal.returns
returns g c =
    let S = g.S.ClauseStore in
    let e : c.loop-step.step ≡ c.args.steps.count = omega arith in
    record {
      puts = adds-two S.held S.units S.prices c.args.store.now c.loop-step.store c.put_all-2.new.store _ _ _
          (adds-more S.held S.units S.prices c.args.store.now c.put_all.new.store c.loop-step.store _ _ c.put_all.ensures.puts (subst (λ s. Adds S.held S.units S.prices c.put_all.new.store c.loop-step.store (signs (steps_alone c.args.template.now s))) e c.loop-step.invariant.0))
          c.put_all-2.ensures.puts
          (signs-whole c.args.template.now c.args.steps.count _ _ (ap signs (start_is c.args.template.now _ c.family.ensures)) (ap signs (family-is c.args.template.now Goal _ _ _ (ap (λ k. c.args.steps.count * k) c.step_size.ensures) c.family-2.ensures)));
      grows = S.growth.more c.args.store.now c.loop-step.store c.put_all-2.new.store (S.growth.more c.args.store.now c.put_all.new.store c.loop-step.store c.put_all.ensures.grows c.loop-step.invariant.1) c.put_all-2.ensures.grows;
    }
