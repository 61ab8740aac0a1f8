-- The widths of the facts are added up.
-- Assumes nothing.
use Rattle.std.proofs.Common.{◌∙◌, rules, tests, arith}
use Rattle.std.proofs.lemmas.Iterator.{YieldsList-from_map}
use Rattle.std.proofs.lemmas.Iterator.Consumers.{YieldsList-at, sum_by_from_yields_List, fits_by_from_yields_list}
use Rattle.std.specs.List.{range_with_len}
use Rattle.encoding.specs.Variables.{pairs, width}
use Rattle.encoding.proofs.Bounds.{bounded}
use Rattle.table.specs.Model.{meant}
use Rattle.formula.proofs.Totals.{gives-up-to, sum-numbers}
use Rattle.formula.proofs.widths.pairs.Goals as goal

pub sum-requires-clause-fits : goal.sum-requires-clause-fits
unfolding pairs
sum-requires-clause-fits c =
    let T = meant c.args.table.now in
    let s = c.args.table.now.sizes in
    let few = bounded.pairs_fit T (s.1, s.3) in
    let e = sum-numbers T.facts (width T) in
    fits_by_from_yields_list (width T) (range_with_len 1 T.facts) c.map.result _
    (YieldsList-from_map _ (width T) (YieldsList-at c.map.ensures.source (gives-up-to T.facts _ c.new.ensures.start (c.new.ensures.end ∙ c.facts.ensures) c.new.ensures.exhausted)) c.map.ensures.closure (λ x r q k. search (rules, tests)))
    (omega arith)

pub returns-clause-pairs : goal.returns-clause-pairs
unfolding pairs
returns-clause-pairs c =
    let T = meant c.args.table.now in
    sum_by_from_yields_List (width T) (range_with_len 1 T.facts) c.map.result _ c.sum.ensures.ran
    (YieldsList-from_map _ (width T) (YieldsList-at c.map.ensures.source (gives-up-to T.facts _ c.new.ensures.start (c.new.ensures.end ∙ c.facts.ensures) c.new.ensures.exhausted)) c.map.ensures.closure (λ x r q k. search (rules, tests)))
    ∙ sum-numbers T.facts (width T)

pub returns-clause-few : goal.returns-clause-few
returns-clause-few c =
    let s = c.args.table.now.sizes in
    let few = bounded.pairs_fit (meant c.args.table.now) (s.1, s.3) in
    let e = returns-clause-pairs c in
    omega arith
