-- Clauses put one after another, for the contracts of inner functions. No public contract cites it.
-- Assumes nothing.
use Rattle.std.specs.Prelude.{ℕ, ◌+◌, ◌≤◌, List, map, ℤ}
use Rattle.encoding.specs.Clauses.{Literal, rename, signed}
use Rattle.encoding.specs.Counts.{of_length}
use Rattle.store.specs.Clauses.{Added, Prices, price_of}
use Rattle.formula.specs.declared.clauses.Clause.{Clause}
use Rattle.formula.specs.declared.template.Family.TheVariants.{Agenda, Kept, Truth}
use Rattle.formula.specs.declared.template.Template.{Template}
use Rattle.formula.specs.Listings.{lits}
use Rattle.formula.specs.Templates.{said}

-- clauses joined the end of a store s, which is t afterwards, if the free units cover their prices
abbrev pub Adds : {X : Type 0} (held : X → List (List ℤ)) (units : X → ℕ) (prices : Prices) (s t : X) (cs : List (List ℤ)) → Type 0
Adds held units prices s t cs = price_of prices cs ≤ units s → Added held units prices s t cs

-- a clause in memory with k added to each variable, and the numbers it is put as
abbrev pub moved : ℕ → Clause → List (Literal ℕ)
moved k c = map (rename (λ v. v + k)) (lits c)

abbrev pub signs : List (List (Literal ℕ)) → List (List ℤ)
signs cs = map (map signed) cs

-- how many clauses of k literals a step has
abbrev pub in_step : Template → ℕ → ℕ
in_step t k = of_length k (said t Agenda) + of_length k (said t Kept) + of_length k (said t Truth)
