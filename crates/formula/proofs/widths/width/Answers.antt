-- The relevant ones among the events are counted.
-- Assumes nothing.
use Rattle.std.proofs.Common.{◌*◌, ap, ◌∙◌, rules, tests}
use Rattle.std.proofs.lemmas.Iterator.Consumers.{YieldsList-from_filter, YieldsList-at, count_from_yields_List}
use Rattle.std.proofs.lemmas.List.Sums.{length-filter}
use Rattle.encoding.specs.Tables.{relevant}
use Rattle.encoding.specs.Variables.{width}
use Rattle.table.specs.Model.{meant}
use Rattle.formula.proofs.Totals.{count-numbers, gives-up-to}
use Rattle.formula.proofs.widths.width.Goals as goal

pub returns : goal.returns
unfolding width
returns c =
    let T = meant c.args.table.now in
    count_from_yields_List c.filter.result _ c.count.ensures.ran
    (YieldsList-from_filter _ (λ e. relevant T e c.args.fact) (YieldsList-at c.filter.ensures.source (gives-up-to (2 * T.actions) _ c.new.ensures.start (c.new.ensures.end ∙ ap (λ n. 2 * n) c.actions.ensures) c.new.ensures.exhausted)) c.filter.ensures.closure (λ x b q k. search (rules, tests)))
    ∙ length-filter (λ e. relevant T e c.args.fact) _ ∙ count-numbers (2 * T.actions) (λ e. relevant T e c.args.fact)
