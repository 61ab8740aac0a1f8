-- What a hole of a format string with a width writes is the number in a column of that width.
use Rattle.std.proofs.Common.{◌≡◌, ℕ, ◌^◌, ◌-◌, zero, suc, false, List, [], ◌∷◌, ◌++◌, length, replicate, decimal, refl, ap, arith, append-nil}
use Rattle.std.proofs.lemmas.Str.{encode_ascii}
use Rattle.std.proofs.Math.Dec.{eqb-suc-zero}
use Rattle.std.proofs.Math.Utf8.{encode}
use Rattle.std.specs.Fmt.{char_count, format_spec, padded_integral, styled_decimal}
use Rattle.std.specs.List.{repeat}
use Rattle.report.specs.Lines.{column}

repeated-one : (n b : ℕ) → repeat n (b ∷ []) ≡ replicate n b
repeated-one zero b = refl
repeated-one (suc n) b = ap {B = List ℕ} (λ bs. b ∷ bs) (repeated-one n b)

of-none : (m : ℕ) → 0 - m ≡ 0
of-none m = omega arith

-- all of the padding stands before the digits
padding-first : (p q : ℕ) (fill digits : List ℕ) → p ≡ q → fill ≡ 32 ∷ [] → (repeat p fill ++ [] ++ [] ++ []) ++ (digits ++ repeat (p - p) fill) ≡ replicate q 32 ++ digits
padding-first p q fill digits e f = let z : p - p ≡ 0 = omega arith in rw (z, e, f, repeated-one) (simp append-nil)

padded-is-column : (w n : ℕ) → padded_integral (format_spec 32 3 0 w (2 ^ 64 - 1)) false [] (decimal n) ≡ column w n
unfolding padded_integral char_count column
padded-is-column w n = padding-first (w - length (decimal n) - 0 - 0) (w - length (decimal n)) (encode 32) (decimal n) (omega arith) (encode_ascii 32 (omega arith))

pub hole_is_column : (w n : ℕ) → styled_decimal (format_spec 32 3 0 w (2 ^ 64 - 1)) n ≡ column w n
unfolding column
hole_is_column zero n = rw of-none
hole_is_column (suc w) n = rw (eqb-suc-zero w) (padded-is-column (suc w) n)
