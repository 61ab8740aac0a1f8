-- The values of a plan, turn by turn, as a loop writes them.
-- Assumes nothing.
use Rattle.std.proofs.Common.{◌≡◌, ℕ, zero, suc, ◌-◌, ◌≤◌, Bool, true, false, List, [], ◌∷◌, ◌++◌, map, refl, ap, ◌∙◌, ap₂, arith}
use Rattle.std.specs.List.{AllByRecursion}
use Rattle.std.proofs.lemmas.List.{map-append}
use Rattle.std.proofs.ByRecursion.{All-weaker}
use Rattle.encoding.specs.Ranges.{only}
use Rattle.encoding.specs.Tables.{Table, events, relevant}
use Rattle.encoding.specs.Plans.{Placed, Plan, Rising}
use Rattle.encoding.specs.Variables.{InRange, O, Os, V, Vs, X, Xs, Y, Ys, step_vars, vars}
use Rattle.encoding.specs.Values.{in_step, value_of, values}
use Rattle.encoding.specs.Turns.{step_values, value_at, walk, walk_steps}
use Rattle.encoding.proofs.Ranges.{each-cong, map_each}
use Rattle.encoding.proofs.Prefixes.{values_agree}
use Rattle.encoding.proofs.Numbering.{vars-ranged}

map_same : {A B : Type 0} (f g : A → B) (xs : List A) → AllByRecursion (λ x. f x ≡ g x) xs → map f xs ≡ map g xs
map_same f g [] h = refl
map_same f g (x ∷ xs) h = ap₂ ◌∷◌ h.0 (map_same f g xs h.1)

pub values-turns : (T : Table) (n : ℕ) (π : Plan) → AllByRecursion (Placed T n) π → Rising π → values T n π ≡ map (value_at T (in_step π)) (vars T n)
unfolding values
values-turns T n π h r = map_same (value_of T π) (value_at T (in_step π)) (vars T n) (All-weaker (InRange T n) _ (λ v. values_agree T n π h r v) (vars T n) (vars-ranged T n))

-- the values of step s + 1, from the state that it begins in
pub step-values : (T : Table) (y : ℕ → ℕ → Bool) (s : ℕ) → map (value_at T y) (step_vars T (suc s)) ≡ step_values T (y (suc s)) (walk_steps T y s)
unfolding step_vars step_values value_at walk_steps
step-values T y s =
    map-append (value_at T y) (Ys T (suc s) ++ Vs T (suc s) ++ Xs T (suc s)) (Os T (suc s))
    ∙ ap₂ ◌++◌ (map-append (value_at T y) (Ys T (suc s) ++ Vs T (suc s)) (Xs T (suc s))
    ∙ ap₂ ◌++◌ (map-append (value_at T y) (Ys T (suc s)) (Vs T (suc s))
    ∙ ap₂ ◌++◌ (map_each (value_at T y) (events T) (λ e. Y (suc s) e ∷ []))
    (map_each (value_at T y) T.facts _ ∙ each-cong T.facts _ _ (λ p u v. map_each (value_at T y) (events T) _ ∙ each-cong (events T) _ _ (λ e w x. go p e w (relevant T e p)))))
    (map_each (value_at T y) T.facts (λ p. X (suc s) p ∷ [])))
    (map_each (value_at T y) T.actions (λ a. O (suc s) a ∷ []))
  where
    go : (p e : ℕ) → 1 ≤ e → (r : Bool) → map (value_at T y) (only r (V (suc s) e p ∷ [])) ≡ only r ((walk T (y (suc s)) (e - 1) (walk_steps T y s)).holds p ∷ [])
    go p e w false = refl
    go p zero w true = absurd (omega arith)
    go p (suc k) w true = let i : k ≡ suc k - 1 = omega arith in ap (λ (j : ℕ). (walk T (y (suc s)) j (walk_steps T y s)).holds p ∷ []) i
