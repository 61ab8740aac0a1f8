-- Each family of step s + 1 is that of the first step with s times the step's size added to each variable; and so is the goal's.
-- Assumes nothing.
use Rattle.std.proofs.Common.{◌≡◌, ℕ, zero, suc, ◌+◌, ◌*◌, List, [], ◌∷◌, ◌++◌, map, sym, refl, ap, ◌∙◌, ap₂, suc-mul, zero-mul, arith}
use Rattle.std.specs.List.{AllByRecursion}
use Rattle.encoding.specs.Tables.{Table}
use Rattle.encoding.specs.Variables.{InRange, step_size}
use Rattle.encoding.specs.Clauses.{Clause, Literal, agenda, goal, goal_facts, is, isnt, kept, none_open, numbered, rename, step, truth, truth_of, variable}
use Rattle.encoding.proofs.Ranges.{all_left, all_right, each-cong, map_each}
use Rattle.encoding.proofs.Shifting.{agenda-later, kept-later, later, later-append, later-only, later_clauses, shift-clauses, truth_of-later}
use Rattle.encoding.proofs.Within.{goal-in, step_in}

-- clauses with k added to each variable
abbrev pub plus : ℕ → List (List (Literal ℕ)) → List (List (Literal ℕ))
plus k cs = map (map (rename (λ v. v + k))) cs

plus-clause : (a b c : ℕ) (l : List (Literal ℕ)) → c ≡ b + a → map (rename (λ v. v + a)) (map (rename (λ v. v + b)) l) ≡ map (rename (λ v. v + c)) l
plus-clause a b c [] e = refl
plus-clause a b c (is v ∷ l) e = let h : v + b + a ≡ v + c = omega arith in ap₂ (λ (x : ℕ) d. is x ∷ d) h (plus-clause a b c l e)
plus-clause a b c (isnt v ∷ l) e = let h : v + b + a ≡ v + c = omega arith in ap₂ (λ (x : ℕ) d. isnt x ∷ d) h (plus-clause a b c l e)

plus-plus : (a b c : ℕ) (cs : List (List (Literal ℕ))) → c ≡ b + a → plus a (plus b cs) ≡ plus c cs
plus-plus a b c [] e = refl
plus-plus a b c (l ∷ cs) e = ap₂ ◌∷◌ (plus-clause a b c l e) (plus-plus a b c cs e)

same-clause : (k : ℕ) (l : List (Literal ℕ)) → k ≡ 0 → l ≡ map (rename (λ v. v + k)) l
same-clause k [] e = refl
same-clause k (is v ∷ l) e = let h : v ≡ v + k = omega arith in ap₂ (λ (x : ℕ) d. is x ∷ d) h (same-clause k l e)
same-clause k (isnt v ∷ l) e = let h : v ≡ v + k = omega arith in ap₂ (λ (x : ℕ) d. isnt x ∷ d) h (same-clause k l e)

pub plus_none : (k : ℕ) (cs : List (List (Literal ℕ))) → k ≡ 0 → cs ≡ plus k cs
plus_none k [] e = refl
plus_none k (l ∷ cs) e = ap₂ ◌∷◌ (same-clause k l e) (plus_none k cs e)

module _ (T : Table) where
  -- a family whose clauses of each step are those of the step before, one step later
  family-plus : (f : ℕ → List Clause) (bound : ℕ → ℕ) → ((s : ℕ) → later_clauses (f s) ≡ f (suc s)) → ((s : ℕ) → AllByRecursion (AllByRecursion (λ l. InRange T (bound s) (variable l))) (f s)) → (s : ℕ) → numbered T (f s) ≡ plus (s * step_size T) (numbered T (f 0))
  family-plus f bound l r zero = plus_none (0 * step_size T) (numbered T (f 0)) (zero-mul (step_size T))
  family-plus f bound l r (suc s) =
      ap (numbered T) (sym (l s))
      ∙ shift-clauses T (bound s) (f s) (r s)
      ∙ ap (plus (step_size T)) (family-plus f bound l r s)
      ∙ plus-plus (step_size T) (s * step_size T) (suc s * step_size T) (numbered T (f 0)) (suc-mul s (step_size T))

  step_range : (s : ℕ) → AllByRecursion (AllByRecursion (λ l. InRange T (suc s) (variable l))) (agenda T s ++ kept T s ++ truth T s)
  step_range s = unfold step in step_in T (suc s) (suc s) (omega arith) (omega arith)

  pub agenda-plus : (s : ℕ) → numbered T (agenda T s) ≡ plus (s * step_size T) (numbered T (agenda T 0))
  agenda-plus = family-plus (agenda T) suc (agenda-later T) (λ s. all_left _ (agenda T s) (kept T s) (all_left _ (agenda T s ++ kept T s) (truth T s) (step_range s)))

  pub kept-plus : (s : ℕ) → numbered T (kept T s) ≡ plus (s * step_size T) (numbered T (kept T 0))
  kept-plus = family-plus (kept T) suc (kept-later T) (λ s. all_right _ (agenda T s) (kept T s) (all_left _ (agenda T s ++ kept T s) (truth T s) (step_range s)))

  pub truth-plus : (s : ℕ) → numbered T (truth T s) ≡ plus (s * step_size T) (numbered T (truth T 0))
  truth-plus = family-plus (truth T) suc (λ s. map_each (map (rename later)) T.facts (truth_of T s) ∙ each-cong T.facts _ _ (λ p u v. truth_of-later T s p)) (λ s. all_right _ (agenda T s ++ kept T s) (truth T s) (step_range s))

  goal-later : (s : ℕ) → later_clauses (goal T s) ≡ goal T (suc s)
  unfolding goal later
  goal-later s =
      later-append T (goal_facts T s) (none_open T s)
      ∙ ap₂ ◌++◌ (map_each (map (rename later)) T.facts _ ∙ each-cong T.facts _ _ (λ p u v. later-only T (T.goal p) _)) (map_each (map (rename later)) T.actions _)

  pub goal-plus : (n : ℕ) → numbered T (goal T n) ≡ plus (n * step_size T) (numbered T (goal T 0))
  goal-plus = family-plus (goal T) (λ s. s) goal-later (λ s. goal-in T s)
