-- The roles of notes and their numbers.
-- Assumes nothing.
use Rattle.std.specs.Prelude.{ℕ, Bool, true, false, cond, ◌||◌, Some, None, Option, ◌==◌}
use Rattle.table.specs.declared.roles.Role.{Role}
use Rattle.table.specs.declared.roles.Role.TheVariants.{Initial, Goal, StartNeeds, StartAdds, StartDeletes, EndNeeds, EndAdds, EndDeletes, Held}

abbrev pub number_of : Role → ℕ
number_of Initial = 1
number_of Goal = 2
number_of StartNeeds = 3
number_of StartAdds = 4
number_of StartDeletes = 5
number_of EndNeeds = 6
number_of EndAdds = 7
number_of EndDeletes = 8
number_of Held = 9

-- the role of a number, if it is 1 to 9
abbrev pub role_of : ℕ → Option Role
role_of n =
    cond (n == 1) (Some Initial) (cond (n == 2) (Some Goal) (cond (n == 3) (Some StartNeeds)
    (cond (n == 4) (Some StartAdds) (cond (n == 5) (Some StartDeletes) (cond (n == 6) (Some EndNeeds)
    (cond (n == 7) (Some EndAdds) (cond (n == 8) (Some EndDeletes) (cond (n == 9) (Some Held) None))))))))

abbrev pub same_role : Role → Role → Bool
same_role r s = number_of r == number_of s

-- whether the role takes no action: its notes name action 0
abbrev pub actionless : Role → Bool
actionless Initial = true
actionless Goal = true
actionless StartNeeds = false
actionless StartAdds = false
actionless StartDeletes = false
actionless EndNeeds = false
actionless EndAdds = false
actionless EndDeletes = false
actionless Held = false

-- whether f holds of some role
abbrev pub some_role : (Role → Bool) → Bool
some_role f = f Initial || (f Goal || (f StartNeeds || (f StartAdds || (f StartDeletes || (f EndNeeds || (f EndAdds || (f EndDeletes || f Held)))))))
