-- What a put writes, for the contract of an inner function. No public contract cites it.
use Rattle.std.specs.Prelude.{ℕ, ◌+◌, ◌*◌, List, ◌++◌, length, take, drop, ℤ}
use Rattle.store.specs.Rendering.{line_of, header_of, width, header_length}

-- The bytes with a clause's line written at `at`, and the header anew
abbrev pub rewritten : List ℕ → ℕ → List ℤ → ℕ → ℕ → List ℕ
rewritten bytes at c largest count = header_of width largest count ++ (drop header_length (take at bytes) ++ (line_of width c ++ drop (at + (width * length c + 3)) bytes))
