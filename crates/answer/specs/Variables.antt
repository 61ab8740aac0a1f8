-- Which numbers are variables. Every source tells none of any other number.
-- Assumes nothing.
use Rattle.std.specs.Prelude.{ℕ, Bool, ◌&&◌, nat_le}

abbrev pub largest_variable : ℕ
largest_variable = 99999

abbrev pub is_variable : ℕ → Bool
is_variable v = nat_le 1 v && nat_le v largest_variable
