-- Clauses in memory, read as clauses over the variables' numbers; how a list of them grows; and when a store may take them.
-- Assumes nothing.
use Rattle.std.specs.Prelude.{◌≡◌, ℕ, ◌+◌, ◌≤◌, List, [], ◌∷◌, ◌++◌, map, length, take}
use Rattle.std.specs.List.{AllByRecursion}
use Rattle.encoding.specs.Clauses.{Literal, is, isnt, rename, variable}
use Rattle.encoding.specs.Limits.{literal_limit}
use Rattle.formula.specs.declared.clauses.Literal.{Literal as Written}
use Rattle.formula.specs.declared.clauses.Literal.TheVariants.{Is, Isnt}
use Rattle.formula.specs.declared.clauses.Clause.{Clause}
use Rattle.formula.specs.declared.clauses.Clause.TheVariants.{One, Two, Three}
use Rattle.formula.specs.declared.listing.Listing.{Listing}

abbrev pub lit : Written → Literal ℕ
lit (Is v) = is v
lit (Isnt v) = isnt v

abbrev pub lits : Clause → List (Literal ℕ)
lits (One a) = lit a ∷ []
lits (Two a b) = lit a ∷ lit b ∷ []
lits (Three a b c) = lit a ∷ lit b ∷ lit c ∷ []

-- the clauses of a listing, as they lie in memory and as what they say
abbrev pub values : {N : ℕ} → Listing N → List Clause
values l = take l.count l.slots

abbrev pub listed : {N : ℕ} → Listing N → List (List (Literal ℕ))
listed l = map lits (values l)

-- Clauses joined the end of a listing s, which is t afterwards, if it has room for them
pub record Grew {N : ℕ} (s t : Listing N) (cs : List (List (Literal ℕ))) : Type 0 where
  pub more : t.count ≡ s.count + length cs
  pub joined : listed t ≡ listed s ++ cs

abbrev pub Joined : {N : ℕ} → Listing N → Listing N → List (List (Literal ℕ)) → Type 0
Joined {N} s t cs = s.count + length cs ≤ N → Grew s t cs

-- a literal whose variable a clause may name
abbrev pub InLimits : Literal ℕ → Type 0
InLimits l = (1 ≤ variable l) × (variable l ≤ literal_limit)

-- clauses with k added to each variable
abbrev pub shifted : ℕ → List (List (Literal ℕ)) → List (List (Literal ℕ))
shifted k cs = map (map (rename (λ v. v + k))) cs

-- the clauses of a listing name such variables, also with k added to each
abbrev pub LawfulAt : {N : ℕ} → ℕ → Listing N → Type 0
LawfulAt k l = AllByRecursion (AllByRecursion InLimits) (shifted k (listed l))
