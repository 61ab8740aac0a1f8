-- Bounds of what counted clauses cost.
-- Assumes nothing.
use Rattle.std.proofs.Common.{ℕ, ◌*◌, ◌≤◌, mul-le-mul}

-- a product of counts and a price is small
pub once-small : (a p : ℕ) → a ≤ 96 → p ≤ 64 → a * p ≤ 6144
once-small a p h l = mul-le-mul h l

pub steps-small : (n a p : ℕ) → n ≤ 64 → a ≤ 4768 → p ≤ 64 → n * a * p ≤ 19529728
steps-small n a p h l m = let k : n * a ≤ 64 * 4768 = mul-le-mul h l in mul-le-mul k m
