-- Templates: what the five families of a template are, and the clause list of n steps that they unroll to.
-- Assumes nothing.
use Rattle.std.specs.Prelude.{◌≡◌, ℕ, zero, suc, ◌*◌, List, ◌++◌, map}
use Rattle.encoding.specs.Clauses.{Literal, agenda, goal, kept, numbered, start, truth}
use Rattle.encoding.specs.Labels.{Labelled}
use Rattle.encoding.specs.Tables.{Table}
use Rattle.encoding.specs.Variables.{step_size}
use Rattle.formula.specs.declared.clauses.Clause.{Clause}
use Rattle.formula.specs.declared.template.Family.{Family}
use Rattle.formula.specs.declared.template.Family.TheVariants.{Start, Agenda, Kept, Truth, Goal}
use Rattle.formula.specs.declared.template.Template.{Template}
use Rattle.formula.specs.Listings.{lits, shifted, values}

abbrev pub family_number : Family → ℕ
family_number Start = 1
family_number Agenda = 2
family_number Kept = 3
family_number Truth = 4
family_number Goal = 5

-- the clauses of a family, as they lie in memory and as what they say
abbrev pub family_in : Template → Family → List Clause
family_in t Start = values t.start
family_in t Agenda = values t.agenda
family_in t Kept = values t.kept
family_in t Truth = values t.truth
family_in t Goal = values t.goal

abbrev pub said : Template → Family → List (List (Literal ℕ))
said t f = map lits (family_in t f)

-- The template of a table: the start's clauses, those of the first step, and the goal's as if it were to hold at the beginning
pub record Templated (T : Table) (t : Template) : Type 0 where
  pub start : said t Start ≡ numbered T (start T)
  pub agenda : said t Agenda ≡ numbered T (agenda T 0)
  pub kept : said t Kept ≡ numbered T (kept T 0)
  pub truth : said t Truth ≡ numbered T (truth T 0)
  pub goal : said t Goal ≡ numbered T (goal T 0)
  pub size : t.step_size ≡ step_size T

-- The clauses of step s + 1, and of n steps
abbrev pub unrolled_step : Template → ℕ → List (List (Literal ℕ))
unrolled_step t s = shifted (s * t.step_size) (said t Agenda) ++ shifted (s * t.step_size) (said t Kept) ++ shifted (s * t.step_size) (said t Truth)

unfoldable pub unrolled_steps : Template → ℕ → List (List (Literal ℕ))
unrolled_steps t zero = said t Start
unrolled_steps t (suc s) = unrolled_steps t s ++ unrolled_step t s

abbrev pub unrolled : Template → ℕ → List (List (Literal ℕ))
unrolled t n = unrolled_steps t n ++ shifted (n * t.step_size) (said t Goal)

-- The same with the family and the step of each clause
abbrev pub tagged : (family step : ℕ) → List (List (Literal ℕ)) → List Labelled
tagged k t cs = map (λ c. record { family = k; step = t; clause = c }) cs

abbrev pub tagged_step : Template → ℕ → List Labelled
tagged_step t s = tagged 2 (suc s) (shifted (s * t.step_size) (said t Agenda)) ++ tagged 3 (suc s) (shifted (s * t.step_size) (said t Kept)) ++ tagged 4 (suc s) (shifted (s * t.step_size) (said t Truth))

unfoldable pub tagged_steps : Template → ℕ → List Labelled
tagged_steps t zero = tagged 1 0 (said t Start)
tagged_steps t (suc s) = tagged_steps t s ++ tagged_step t s

abbrev pub tagged_unrolled : Template → ℕ → List Labelled
tagged_unrolled t n = tagged_steps t n ++ tagged 5 n (shifted (n * t.step_size) (said t Goal))
