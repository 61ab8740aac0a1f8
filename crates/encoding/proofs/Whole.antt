-- The theorem over numbers and plans.
-- Assumes nothing.
use Rattle.std.proofs.Common.{◌≡◌, ℕ, zero, suc, ◌-◌, ◌<◌, ◌≤◌, Bool, true, false, cond, not, ◌||◌, List, [], ◌∷◌, ◌++◌, map, length, get_or, sym, refl, ap, ◌∙◌, subst, ap₂, arith}
use lib.ListN.{length-map}
use Rattle.std.specs.List.{ContainsAt as Has, AllByRecursion}
use Rattle.std.proofs.lemmas.List.{get_or-map}
use Rattle.std.proofs.lemmas.Bool.{both_ways}
use Rattle.std.proofs.ByRecursion.{All-weaker, All-get_or, has_append_left, has_append_right, All-map}
use Rattle.encoding.specs.Ranges.{Each, each}
use Rattle.encoding.specs.Tables.{Table, events, relevant}
use Rattle.encoding.specs.Plans.{Placed, State, Valid, after}
use Rattle.encoding.specs.Variables.{InRange, O, Os, V, Var, Vs, X, Xs, Y, Ys, number, step_vars, variables, vars}
use Rattle.encoding.specs.Clauses.{Literal, Satisfies, clause_holds, clauses, formula, is, isnt, rename, variable}
use Rattle.encoding.specs.Values.{assignment, in_step, plan_from, plan_of, value_of, values}
use Rattle.encoding.specs.Theorem.{Complete, Encodes, Exact, Local, Numbered, Sound, Unique, Within}
use Rattle.encoding.specs.Turns.{value_at, walk, walk_steps}
use Rattle.encoding.proofs.Ranges.{each-cong, has-each, has_one, ups-up_to}
use Rattle.encoding.proofs.Symbolic.{Works, satisfied-values, satisfied-works, works-satisfied}
use Rattle.encoding.proofs.Plans.{in_step-plan_from, plan_from-in_step, plan_from-placed, valid-works, works-valid}
use Rattle.encoding.proofs.Prefixes.{values_agree}
use Rattle.encoding.proofs.Numbering.{all-numbers, length-vars, number_at, vars-ranged}
use Rattle.encoding.proofs.Within.{clauses-in}

-- Clauses over numbers

rename-holds : {A B : Type 0} (f : A → B) (σ : B → Bool) (c : List (Literal A)) → clause_holds σ (map (rename f) c) ≡ clause_holds (λ v. σ (f v)) c
rename-holds f σ [] = refl
rename-holds f σ (is v ∷ c) = ap (λ b. σ (f v) || b) (rename-holds f σ c)
rename-holds f σ (isnt v ∷ c) = ap (λ b. not (σ (f v)) || b) (rename-holds f σ c)

unrename-satisfied : {A B : Type 0} (f : A → B) (σ : B → Bool) (cs : List (List (Literal A))) → Satisfies σ (map (map (rename f)) cs) → Satisfies (λ v. σ (f v)) cs
unrename-satisfied f σ [] h = tt
unrename-satisfied f σ (c ∷ cs) h = (sym (rename-holds f σ c) ∙ h.0, unrename-satisfied f σ cs h.1)

rename-satisfied : {A B : Type 0} (f : A → B) (σ : B → Bool) (cs : List (List (Literal A))) → Satisfies (λ v. σ (f v)) cs → Satisfies σ (map (map (rename f)) cs)
rename-satisfied f σ [] h = tt
rename-satisfied f σ (c ∷ cs) h = (rename-holds f σ c ∙ h.0, rename-satisfied f σ cs h.1)

-- Assignments that agree on what is mentioned

holds-cong : {A : Type 0} (σ τ : A → Bool) (c : List (Literal A)) → AllByRecursion (λ l. σ (variable l) ≡ τ (variable l)) c → clause_holds σ c ≡ clause_holds τ c
holds-cong σ τ [] h = refl
holds-cong σ τ (is v ∷ c) h = ap₂ ◌||◌ h.0 (holds-cong σ τ c h.1)
holds-cong σ τ (isnt v ∷ c) h = ap₂ (λ a b. not a || b) h.0 (holds-cong σ τ c h.1)

satisfies-cong : {A : Type 0} (R : A → Type 0) (σ τ : A → Bool) → ((v : A) → R v → σ v ≡ τ v) → (cs : List (List (Literal A))) → AllByRecursion (AllByRecursion (λ l. R (variable l))) cs → Satisfies σ cs → Satisfies τ cs
satisfies-cong R σ τ e [] r h = tt
satisfies-cong R σ τ e (c ∷ cs) r h = (sym (holds-cong σ τ c (All-weaker (λ l. R (variable l)) (λ l. σ (variable l) ≡ τ (variable l)) (λ l. e (variable l)) c r.0)) ∙ h.0, satisfies-cong R σ τ e cs r.1 h.1)

walk-cong : (T : Table) (y z : ℕ → Bool) (k : ℕ) (s : State) → Each k (λ e. y e ≡ z e) → walk T y k s ≡ walk T z k s
unfolding walk
walk-cong T y z zero s h = refl
walk-cong T y z (suc k) s h = ap₂ (λ b w. cond b (after T (suc k) w) w) (h (suc k) (omega arith) (omega arith)) (walk-cong T y z k s (λ e u v. h e u (omega arith)))

walk_steps-cong : (T : Table) (n : ℕ) (y z : ℕ → ℕ → Bool) → ((t e : ℕ) → Placed T n (t, e) → y t e ≡ z t e) → (t : ℕ) → t ≤ n → walk_steps T y t ≡ walk_steps T z t
unfolding walk_steps
walk_steps-cong T n y z h zero l = refl
walk_steps-cong T n y z h (suc t) l = ap (walk T (y (suc t)) (events T)) (walk_steps-cong T n y z h t (omega arith)) ∙ walk-cong T (y (suc t)) (z (suc t)) (events T) (walk_steps T z t) (λ e u v. h (suc t) e (omega arith, l, u, v))

value_at-cong : (T : Table) (n : ℕ) (y z : ℕ → ℕ → Bool) → ((t e : ℕ) → Placed T n (t, e) → y t e ≡ z t e) → (v : Var) → InRange T n v → value_at T y v ≡ value_at T z v
unfolding value_at
value_at-cong T n y z h (X t p) r = ap (λ s. s.holds p) (walk_steps-cong T n y z h t r.0)
value_at-cong T n y z h (O t a) r = ap (λ s. s.is_open a) (walk_steps-cong T n y z h t r.0)
value_at-cong T n y z h (Y t e) r = h t e r
value_at-cong T n y z h (V zero e p) r = refl
value_at-cong T n y z h (V (suc s) zero p) r = refl
value_at-cong T n y z h (V (suc s) (suc k) p) r = ap (λ s. s.holds p) (ap (walk T (y (suc s)) k) (walk_steps-cong T n y z h s (omega arith)) ∙ walk-cong T (y (suc s)) (z (suc s)) k (walk_steps T z s) (λ e u v. h (suc s) e (omega arith, r.1, u, omega arith)))

plan_from-cong : (T : Table) (n : ℕ) (y z : ℕ → ℕ → Bool) → ((t e : ℕ) → Placed T n (t, e) → y t e ≡ z t e) → plan_from T n y ≡ plan_from T n z
unfolding plan_from
plan_from-cong T n y z h = each-cong n _ _ (λ t u v. each-cong (events T) _ _ (λ e w x. ap (λ b. cond b ((t, e) ∷ []) []) (h t e (u, v, w, x))))

-- The numbers

module _ (T : Table) (n : ℕ) where
  has-step : (s : ℕ) → s < n → (v : Var) → Has (step_vars T (suc s)) v → Has (vars T n) v
  unfolding vars
  has-step s l v h = has_append_right (Xs T 0 ++ Os T 0) (each n (step_vars T)) v (has-each n (step_vars T) v (suc s) (omega arith) l h)

  pub has-vars : (v : Var) → InRange T n v → Has (vars T n) v
  unfolding vars step_vars
  has-vars (X zero p) r = has_append_left (Xs T 0 ++ Os T 0) _ (X 0 p) (has_append_left (Xs T 0) (Os T 0) (X 0 p) (has-each T.facts _ (X 0 p) p r.1 r.2 (has_one (X 0 p))))
  has-vars (O zero a) r = has_append_left (Xs T 0 ++ Os T 0) _ (O 0 a) (has_append_right (Xs T 0) (Os T 0) (O 0 a) (has-each T.actions _ (O 0 a) a r.1 r.2 (has_one (O 0 a))))
  has-vars (Y zero e) r = absurd (omega arith)
  has-vars (V zero e p) r = absurd (omega arith)
  has-vars (Y (suc s) e) r = let v = Y (suc s) e in has-step s r.1 v (has_append_left (Ys T (suc s) ++ Vs T (suc s) ++ Xs T (suc s)) (Os T (suc s)) v (has_append_left (Ys T (suc s) ++ Vs T (suc s)) (Xs T (suc s)) v (has_append_left (Ys T (suc s)) (Vs T (suc s)) v
      (has-each (events T) _ v e r.2 r.3 (has_one v)))))
  has-vars (V (suc s) e p) r = let v = V (suc s) e p in has-step s r.1 v (has_append_left (Ys T (suc s) ++ Vs T (suc s) ++ Xs T (suc s)) (Os T (suc s)) v (has_append_left (Ys T (suc s) ++ Vs T (suc s)) (Xs T (suc s)) v (has_append_right (Ys T (suc s)) (Vs T (suc s)) v
      (has-each T.facts _ v p r.4 r.5 (has-each (events T) (λ e. cond (relevant T e p) (V (suc s) e p ∷ []) []) v e r.2 r.3 (rw r.6 (has_one v)))))))
  has-vars (X (suc s) p) r = let v = X (suc s) p in has-step s r.0 v (has_append_left (Ys T (suc s) ++ Vs T (suc s) ++ Xs T (suc s)) (Os T (suc s)) v (has_append_right (Ys T (suc s) ++ Vs T (suc s)) (Xs T (suc s)) v
      (has-each T.facts _ v p r.1 r.2 (has_one v))))
  has-vars (O (suc s) a) r = let v = O (suc s) a in has-step s r.0 v (has_append_right (Ys T (suc s) ++ Vs T (suc s) ++ Xs T (suc s)) (Os T (suc s)) v
      (has-each T.actions _ v a r.1 r.2 (has_one v)))

  -- a variable's number is one more than its place
  pub place : (v : Var) → InRange T n v → (k : ℕ) × (k < variables T n) × (number T v ≡ suc k) × ((d : Var) → get_or (vars T n) k d ≡ v)
  place v r =
      let (k, l, at) = has-vars v r in
      let m : k < variables T n = rw (← length-vars T n) l in
      (k, m, ap (number T) (sym (at v)) ∙ number_at T n k v m, at)

  pub number_in : (v : Var) → InRange T n v → (1 ≤ number T v) × (number T v ≤ variables T n)
  number_in v r = let (k, l, e, _) = place v r in (omega arith, omega arith)

  -- what the list of values says of a variable
  pub assignment-at : (τ : Var → Bool) (v : Var) → InRange T n v → assignment (map τ (vars T n)) (number T v) ≡ τ v
  unfolding assignment
  assignment-at τ v r =
      let (k, l, e, at) = place v r in
      let m : k < length (vars T n) = rw (length-vars T n) l in
      let i : number T v - 1 ≡ k = omega arith in
      ap (λ x. get_or (map τ (vars T n)) x false) i ∙ get_or-map τ (vars T n) k v false m ∙ ap τ (at v)

  -- the variable of a number
  pub var-at : Each (variables T n) (λ i. (v : Var) × InRange T n v × (number T v ≡ i))
  var-at zero u l = absurd (omega arith)
  var-at (suc k) u l = let m : k < length (vars T n) = rw (length-vars T n) l in (get_or (vars T n) k (X 0 0), All-get_or (InRange T n) (vars T n) k (X 0 0) m (vars-ranged T n), number_at T n k (X 0 0) l)

-- The theorem

symbolic : (T : Table) (n : ℕ) (σ : ℕ → Bool) → Satisfies σ (formula T n) → Satisfies (λ v. σ (number T v)) (clauses T n)
unfolding formula
symbolic T n σ h = unrename-satisfied (number T) σ (clauses T n) h

pub sound : Sound
unfolding plan_of
sound T n σ h = works-valid T n (λ t e. σ (number T (Y t e))) (satisfied-works T n (λ v. σ (number T v)) (symbolic T n σ h))

-- the plan of y has the events that y says
in_step-same : (T : Table) (n : ℕ) (y : ℕ → ℕ → Bool) (t e : ℕ) → Placed T n (t, e) → y t e ≡ in_step (plan_from T n y) t e
in_step-same T n y t e r = go (y t e) (in_step (plan_from T n y) t e) refl refl
  where
    go : (b c : Bool) → y t e ≡ b → in_step (plan_from T n y) t e ≡ c → b ≡ c
    go true c h k = sym (in_step-plan_from T n y t e r h) ∙ k
    go false true h k = absurd (both_ways (y t e) h (plan_from-placed T n y t e k).1)
    go false false h k = refl

pub unique : Unique
unfolding plan_of values
unique T n σ π h e = subst (λ ρ. Each (variables T n) (λ i. σ i ≡ assignment (values T n ρ) i)) e (λ i u l. let (v, r, j) = var-at T n i u l in subst (λ x. σ x ≡ assignment (values T n (plan_of T n σ)) x) j (at v r))
  where
    at : (v : Var) → InRange T n v → σ (number T v) ≡ assignment (values T n (plan_of T n σ)) (number T v)
    at v r =
        let y : ℕ → ℕ → Bool = λ t e. σ (number T (Y t e)) in
        let valid : Valid T n (plan_from T n y) = sound T n σ h in
        satisfied-values T n (λ v. σ (number T v)) (symbolic T n σ h) v r
        ∙ value_at-cong T n y (in_step (plan_from T n y)) (in_step-same T n y) v r
        ∙ sym (values_agree T n (plan_from T n y) valid.placed valid.rising v r)
        ∙ sym (assignment-at T n (value_of T (plan_from T n y)) v r)

pub complete : Complete
unfolding plan_of values formula
complete T n π h =
    let e : plan_from T n (in_step π) ≡ π = plan_from-in_step T n π h.placed h.rising in
    let w : Works T n (in_step π) = valid-works T n (in_step π) (rw e h) in (
      rename-satisfied (number T) (assignment (values T n π)) (clauses T n)
          (satisfies-cong (InRange T n) (value_at T (in_step π)) (λ v. assignment (values T n π) (number T v)) (λ v r. sym (values_agree T n π h.placed h.rising v r) ∙ sym (assignment-at T n (value_of T π) v r)) (clauses T n) (clauses-in T n) (works-satisfied T n (in_step π) w)),
      plan_from-cong T n (λ t e. assignment (values T n π) (number T (Y t e))) (in_step π) (λ t e r. assignment-at T n (value_of T π) (Y t e) r ∙ (unfold value_of in refl)) ∙ e,
    )

rename-in : {A B : Type 0} (f : A → B) (R : A → Type 0) (Q : B → Type 0) → ((v : A) → R v → Q (f v)) → (c : List (Literal A)) → AllByRecursion (λ l. R (variable l)) c → AllByRecursion (λ l. Q (variable l)) (map (rename f) c)
rename-in f R Q h [] r = tt
rename-in f R Q h (is v ∷ c) r = (h v r.0, rename-in f R Q h c r.1)
rename-in f R Q h (isnt v ∷ c) r = (h v r.0, rename-in f R Q h c r.1)

pub within : Within
unfolding formula
within T n = All-map (AllByRecursion (λ l. (1 ≤ variable l) × (variable l ≤ variables T n))) (map (rename (number T))) (clauses T n)
    (All-weaker (AllByRecursion (λ l. InRange T n (variable l))) _ (rename-in (number T) (InRange T n) (λ i. (1 ≤ i) × (i ≤ variables T n)) (number_in T n)) (clauses T n) (clauses-in T n))

pub local : Local
unfolding plan_of
local T n σ τ h = (
  satisfies-cong (λ i. (1 ≤ i) × (i ≤ variables T n)) σ τ (λ i r. h i r.0 r.1) (formula T n) (within T n),
  plan_from-cong T n (λ t e. σ (number T (Y t e))) (λ t e. τ (number T (Y t e))) (λ t e r. let k = number_in T n (Y t e) r in h (number T (Y t e)) k.0 k.1),
)

pub exact : Exact
exact T n π σ h = (
  λ k. unique T n σ π k.0 k.1,
  λ e. let (sat, says) = complete T n π h in
      let back = local T n (assignment (values T n π)) σ (λ i u v. sym (e i u v)) in
      (back.0 sat, sym back.1 ∙ says),
)

pub encodes : Encodes
encodes = record { sound = sound; complete = complete; unique = unique; within = within; local = local; exact = exact }

pub numbered-exactly : Numbered
unfolding values
numbered-exactly T n = (all-numbers T n ∙ ups-up_to (variables T n), λ π. length-map (vars T n) (value_of T π) ∙ length-vars T n)
