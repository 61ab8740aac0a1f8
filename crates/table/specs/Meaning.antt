-- What the entries of a table mean.
-- Assumes nothing.
use Rattle.std.specs.Prelude.{cond}
use Rattle.encoding.specs.Tables.{Table, starts, owner}
use Rattle.table.specs.declared.roles.Role.TheVariants.{Initial, Goal, StartNeeds, StartAdds, StartDeletes, EndNeeds, EndAdds, EndDeletes, Held}
use Rattle.table.specs.Entries.{Entries}

abbrev pub meaning : Entries → Table
meaning E = record {
  facts = E.facts;
  actions = E.actions;
  needs = λ e p. E.noted (cond (starts e) StartNeeds EndNeeds) (owner e) p;
  adds = λ e p. E.noted (cond (starts e) StartAdds EndAdds) (owner e) p;
  deletes = λ e p. E.noted (cond (starts e) StartDeletes EndDeletes) (owner e) p;
  held = λ a p. E.noted Held a p;
  initial = λ p. E.noted Initial 0 p;
  goal = λ p. E.noted Goal 0 p;
}
