-- What size and note answer, and the entries after them.
-- Assumes nothing.
use Rattle.std.specs.Prelude.{ℕ, Bool, false, cond, not, ◌&&◌, ◌||◌, Some, None, Ok, Err, Option, Result, ◌==◌}
use Rattle.table.specs.declared.faults.SizeFault.{SizeFault}
use Rattle.table.specs.declared.faults.SizeFault.TheVariants.{OutOfLimits, AfterNote}
use Rattle.table.specs.declared.faults.NoteFault.{NoteFault}
use Rattle.table.specs.declared.faults.NoteFault.TheVariants.{RoleOutOfLimits, ActionOutOfLimits, FactOutOfLimits, Repeated, Clashes}
use Rattle.table.specs.declared.roles.Role.{Role}
use Rattle.table.specs.declared.roles.Role.TheVariants.{Initial, Goal, StartNeeds, StartAdds, StartDeletes, EndNeeds, EndAdds, EndDeletes, Held}
use Rattle.table.specs.Roles.{role_of, same_role}
use Rattle.table.specs.Entries.{Entries, sized, from, taken, some_note}

-- Size

abbrev pub size_answer : Entries → ℕ → ℕ → Result (Unit {0}) SizeFault
size_answer E f n =
    cond (not (sized f n)) (Err OutOfLimits)
    (cond (some_note E.noted) (Err AfterNote)
    (Ok tt))

abbrev pub with_size : Entries → ℕ → ℕ → Entries
with_size E f n = record { facts = f; actions = n; noted = E.noted }

-- Note

-- whether a note that is there clashes with this one
abbrev pub clashing : Entries → Role → ℕ → ℕ → Bool
clashing E Initial a p = false
clashing E Goal a p = false
clashing E StartNeeds a p = false
clashing E StartAdds a p = E.noted StartDeletes a p
clashing E StartDeletes a p = E.noted StartAdds a p || E.noted Held a p
clashing E EndNeeds a p = false
clashing E EndAdds a p = E.noted EndDeletes a p
clashing E EndDeletes a p = E.noted EndAdds a p
clashing E Held a p = E.noted StartDeletes a p

abbrev pub role_answer : Entries → Role → ℕ → ℕ → Result (Unit {0}) NoteFault
role_answer E r a p =
    cond (not (taken E.actions r a)) (Err ActionOutOfLimits)
    (cond (not (from 1 E.facts p)) (Err FactOutOfLimits)
    (cond (E.noted r a p) (Err Repeated)
    (cond (clashing E r a p) (Err Clashes)
    (Ok tt))))

abbrev pub with_note : Entries → Role → ℕ → ℕ → Entries
with_note E r a p = record { facts = E.facts; actions = E.actions; noted = λ s b q. (same_role s r && (b == a && q == p)) || E.noted s b q }

-- the answer to a note of a role's number, and the table with it
abbrev pub answer_by : Option Role → Entries → ℕ → ℕ → Result (Unit {0}) NoteFault
answer_by None E a p = Err RoleOutOfLimits
answer_by (Some r) E a p = role_answer E r a p

abbrev pub written_by : Option Role → Entries → ℕ → ℕ → Entries
written_by None E a p = E
written_by (Some r) E a p = with_note E r a p

abbrev pub note_answer : Entries → ℕ → ℕ → ℕ → Result (Unit {0}) NoteFault
note_answer E r a p = answer_by (role_of r) E a p

-- A refusal changes nothing

abbrev pub granted : {F : Type 0} → Result (Unit {0}) F → Entries → Entries → Entries
granted (Ok x) before after = after
granted (Err e) before after = before

abbrev pub after_size : Entries → ℕ → ℕ → Entries
after_size E f n = granted (size_answer E f n) E (with_size E f n)

abbrev pub after_note : Entries → ℕ → ℕ → ℕ → Entries
after_note E r a p = granted (note_answer E r a p) E (written_by (role_of r) E a p)
