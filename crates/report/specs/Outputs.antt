-- What a program takes and answers: at most so many bytes, and either what was asked for or a refusal.
-- Assumes nothing.
use Rattle.std.specs.Prelude.{ℕ, Bool, List, length, nat_lt}

abbrev pub longest_input : ℕ
longest_input = 32768

abbrev pub too_long : List ℕ → Bool
too_long input = nat_lt longest_input (length input)
