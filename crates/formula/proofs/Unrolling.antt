-- A table's template unrolls to the table's clause list, with labels or without.
-- Assumes nothing.
use Rattle.std.proofs.Common.{◌≡◌, ℕ, zero, suc, ◌*◌, ◌++◌, sym, ap, ◌∙◌, ap₂, append_assoc, append-nil}
use Rattle.encoding.specs.Clauses.{agenda, formula, goal, kept, numbered, start, step, truth}
use Rattle.encoding.specs.Labels.{label, labelled, labelled_step}
use Rattle.encoding.specs.Ranges.{each}
use Rattle.encoding.specs.Tables.{Table}
use Rattle.encoding.proofs.Emitting.{formula-is, numbered-append}
use Rattle.encoding.proofs.Unrolling.{agenda-plus, goal-plus, kept-plus, truth-plus}
use Rattle.formula.specs.declared.template.Family.TheVariants.{Agenda, Kept, Truth, Goal}
use Rattle.formula.specs.declared.template.Template.{Template}
use Rattle.formula.specs.Listings.{shifted}
use Rattle.formula.specs.Templates.{Templated, said, tagged, tagged_step, tagged_steps, tagged_unrolled, unrolled, unrolled_step, unrolled_steps}

module _ (T : Table) (t : Template) (h : Templated T t) where
  -- each family of step s + 1, and the goal's at n
  pub agenda-said : (s : ℕ) → shifted (s * t.step_size) (said t Agenda) ≡ numbered T (agenda T s)
  agenda-said s = ap₂ (λ k cs. shifted (s * k) cs) h.size h.agenda ∙ sym (agenda-plus T s)

  pub kept-said : (s : ℕ) → shifted (s * t.step_size) (said t Kept) ≡ numbered T (kept T s)
  kept-said s = ap₂ (λ k cs. shifted (s * k) cs) h.size h.kept ∙ sym (kept-plus T s)

  pub truth-said : (s : ℕ) → shifted (s * t.step_size) (said t Truth) ≡ numbered T (truth T s)
  truth-said s = ap₂ (λ k cs. shifted (s * k) cs) h.size h.truth ∙ sym (truth-plus T s)

  pub goal-said : (n : ℕ) → shifted (n * t.step_size) (said t Goal) ≡ numbered T (goal T n)
  goal-said n = ap₂ (λ k cs. shifted (n * k) cs) h.size h.goal ∙ sym (goal-plus T n)

  step-said : (s : ℕ) → unrolled_step t s ≡ numbered T (step T (suc s))
  unfolding step
  step-said s =
      ap₂ ◌++◌ (ap₂ ◌++◌ (agenda-said s) (kept-said s)) (truth-said s)
      ∙ sym (numbered-append T (agenda T s ++ kept T s) (truth T s) ∙ ap (λ cs. cs ++ numbered T (truth T s)) (numbered-append T (agenda T s) (kept T s)))

  steps-said : (n : ℕ) → unrolled_steps t n ≡ numbered T (start T) ++ each n (λ s. numbered T (step T s))
  unfolding unrolled_steps each
  steps-said zero = h.start ∙ sym (append-nil (numbered T (start T)))
  steps-said (suc s) = ap₂ ◌++◌ (steps-said s) (step-said s) ∙ append_assoc (numbered T (start T)) (each s (λ s. numbered T (step T s))) (numbered T (step T (suc s)))

  pub unrolled-is : (n : ℕ) → unrolled t n ≡ formula T n
  unrolled-is n = ap₂ ◌++◌ (steps-said n) (goal-said n) ∙ sym (formula-is T n)

  -- and with labels
  tagged-step : (s : ℕ) → tagged_step t s ≡ labelled_step T (suc s)
  unfolding labelled_step
  tagged-step s = ap₂ ◌++◌ (ap₂ ◌++◌ (ap (tagged 2 (suc s)) (agenda-said s)) (ap (tagged 3 (suc s)) (kept-said s))) (ap (tagged 4 (suc s)) (truth-said s))

  tagged-steps : (n : ℕ) → tagged_steps t n ≡ label T 1 0 (start T) ++ each n (labelled_step T)
  unfolding tagged_steps each
  tagged-steps zero = ap (tagged 1 0) h.start ∙ sym (append-nil (label T 1 0 (start T)))
  tagged-steps (suc s) = ap₂ ◌++◌ (tagged-steps s) (tagged-step s) ∙ append_assoc (label T 1 0 (start T)) (each s (labelled_step T)) (labelled_step T (suc s))

  pub tagged_is : (n : ℕ) → tagged_unrolled t n ≡ labelled T n
  unfolding labelled
  tagged_is n = ap₂ ◌++◌ (tagged-steps n) (ap (tagged 5 n) (goal-said n))
