-- The parts of an unrolled template: what holds of all its clauses holds of each part, and the signed numbers of the parts.
-- Assumes nothing.
use Rattle.std.proofs.Common.{◌≡◌, ℕ, zero, suc, ◌+◌, ◌*◌, List, [], ◌++◌, map, ℤ, sym, refl, ap, ◌∙◌, ap₂, append_assoc, append-nil, arith}
use Rattle.encoding.specs.Clauses.{Literal}
use Rattle.encoding.proofs.Unrolling.{plus_none}
use Rattle.formula.specs.declared.clauses.Clause.{Clause}
use Rattle.formula.specs.declared.template.Family.{Family}
use Rattle.formula.specs.declared.template.Family.TheVariants.{Start, Goal}
use Rattle.formula.specs.declared.template.Template.{Template}
use Rattle.formula.specs.Listings.{lits}
use Rattle.formula.specs.Listings.{shifted}
use Rattle.formula.specs.Templates.{family_in, said, unrolled, unrolled_step, unrolled_steps}
use Rattle.encoder.specs.Puts.{signs}
use Rattle.encoder.proofs.Moved.{signs-append}

-- a family as the code has it
pub family-is : (t : Template) (f : Family) (k j : ℕ) (cs : List Clause) → k ≡ j → cs ≡ family_in t f → shifted k (map lits cs) ≡ shifted j (said t f)
family-is t f k j cs e h = ap₂ (λ i xs. shifted i (map lits xs)) e h

pub start_is : (t : Template) (cs : List Clause) → cs ≡ family_in t Start → shifted 0 (map lits cs) ≡ said t Start
start_is t cs h = sym (plus_none 0 (map lits cs) refl) ∙ ap (map lits) h

-- the clauses of s steps alone
unfoldable pub steps_alone : Template → ℕ → List (List (Literal ℕ))
steps_alone t zero = []
steps_alone t (suc s) = steps_alone t s ++ unrolled_step t s

module _ (t : Template) where
  pub alone-none : signs (steps_alone t 0) ≡ []
  unfolding steps_alone
  alone-none = refl

  pub alone-more : (s : ℕ) → signs (steps_alone t s) ++ signs (unrolled_step t s) ≡ signs (steps_alone t (s + 1))
  unfolding steps_alone
  alone-more s = sym (let e : s + 1 ≡ suc s = omega arith in ap (λ k. signs (steps_alone t k)) e ∙ signs-append (steps_alone t s) (unrolled_step t s))

  steps-are : (s : ℕ) → said t Start ++ steps_alone t s ≡ unrolled_steps t s
  unfolding steps_alone unrolled_steps
  steps-are zero = append-nil (said t Start)
  steps-are (suc s) = sym (append_assoc (said t Start) (steps_alone t s) (unrolled_step t s)) ∙ ap (λ xs. xs ++ unrolled_step t s) (steps-are s)

  -- start, steps and goal together
  pub signs-whole : (s : ℕ) (a b : List (List ℤ)) → a ≡ signs (said t Start) → b ≡ signs (shifted (s * t.step_size) (said t Goal)) → (a ++ signs (steps_alone t s)) ++ b ≡ signs (unrolled t s)
  signs-whole s a b e h =
      ap₂ ◌++◌ (ap (λ xs. xs ++ signs (steps_alone t s)) e ∙ sym (signs-append (said t Start) (steps_alone t s)) ∙ ap signs (steps-are s)) h
      ∙ sym (signs-append (unrolled_steps t s) (shifted (s * t.step_size) (said t Goal)))
