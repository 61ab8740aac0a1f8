-- Plans as lists, and as which events are in which step.
-- Assumes nothing.
use Rattle.std.proofs.Common.{◌≡◌, ℕ, zero, suc, ◌<◌, ◌≤◌, Bool, true, false, cond, ◌&&◌, eqb, ◌⊎◌, [], ◌∷◌, ◌++◌, sym, refl, ap, ◌∙◌, subst, ap₂, inl, inr, ⊎_elim, arith}
use Rattle.std.specs.List.{AllByRecursion}
use Rattle.std.proofs.ByRecursion.{All-append, All-weaker}
use Rattle.std.proofs.lemmas.Bool.{false≢true, or_cases, or_left, or_right, and_parts, and_from, eq-eqb, eqb-true}
use Rattle.encoding.specs.Ranges.{Each, each}
use Rattle.encoding.specs.Tables.{Table, events}
use Rattle.encoding.specs.Plans.{Before, Placed, Plan, Rising, Run, Runs, State, Valid, after, initially, run}
use Rattle.encoding.specs.Values.{in_step, plan_from}
use Rattle.encoding.specs.Turns.{walk, walk_steps}
use Rattle.encoding.proofs.Ranges.{each_all, in-only, last_or}
use Rattle.encoding.proofs.Symbolic.{Works}

-- Running

pub run-append : (T : Table) (s : State) (π ρ : Plan) → run T s (π ++ ρ) ≡ run T (run T s π) ρ
unfolding run
run-append T s [] ρ = refl
run-append T s (x ∷ π) ρ = run-append T (after T x.1 s) π ρ

pub Run-append : (T : Table) (s : State) (π ρ : Plan) → Run T s π → Run T (run T s π) ρ → Run T s (π ++ ρ)
unfolding run
Run-append T s [] ρ h k = k
Run-append T s (x ∷ π) ρ h k = (h.0, Run-append T (after T x.1 s) π ρ h.1 k)

pub Run-left : (T : Table) (s : State) (π ρ : Plan) → Run T s (π ++ ρ) → Run T s π
Run-left T s [] ρ h = tt
Run-left T s (x ∷ π) ρ h = (h.0, Run-left T (after T x.1 s) π ρ h.1)

pub Run-right : (T : Table) (s : State) (π ρ : Plan) → Run T s (π ++ ρ) → Run T (run T s π) ρ
unfolding run
Run-right T s [] ρ h = h
Run-right T s (x ∷ π) ρ h = Run-right T (after T x.1 s) π ρ h.1

-- the events of step t among 1 .. k
abbrev pub stepped : (ℕ → Bool) → ℕ → ℕ → Plan
stepped y t k = each k (λ e. cond (y e) ((t, e) ∷ []) [])

module _ (T : Table) (y : ℕ → Bool) (t : ℕ) (s : State) where
  pub run-stepped : (k : ℕ) → run T s (stepped y t k) ≡ walk T y k s
  unfolding run walk each
  run-stepped zero = refl
  run-stepped (suc k) = run-append T s (stepped y t k) _ ∙ go (y (suc k)) (run T s (stepped y t k)) (walk T y k s) (run-stepped k)
    where
      go : (b : Bool) (u v : State) → u ≡ v → run T u (cond b ((t, suc k) ∷ []) []) ≡ cond b (after T (suc k) v) v
      go true u v e = ap (after T (suc k)) e
      go false u v e = e

  pub Run-stepped : (k : ℕ) → ((j : ℕ) → j < k → y (suc j) ≡ true → Runs T (suc j) (walk T y j s)) → Run T s (stepped y t k)
  unfolding each
  Run-stepped zero h = tt
  Run-stepped (suc k) h = Run-append T s (stepped y t k) _ (Run-stepped k (λ j l. h j (omega arith))) (rw (run-stepped k) (go (y (suc k)) (h k (omega arith))))
    where
      go : (b : Bool) → (b ≡ true → Runs T (suc k) (walk T y k s)) → Run T (walk T y k s) (cond b ((t, suc k) ∷ []) [])
      go true h = (h refl, tt)
      go false h = tt

  pub stepped-Run : (k : ℕ) → Run T s (stepped y t k) → (j : ℕ) → j < k → y (suc j) ≡ true → Runs T (suc j) (walk T y j s)
  unfolding each
  stepped-Run zero h j l e = absurd (omega arith)
  stepped-Run (suc k) h j l e =
      ⊎_elim (λ i. rw i (go (y (suc k)) (rw (← i) e) (rw (run-stepped k) at (Run-right T s (stepped y t k) _ h)))) (λ m. stepped-Run k (Run-left T s (stepped y t k) _ h) j m e) (last k j l)
    where
      go : (b : Bool) → b ≡ true → Run T (walk T y k s) (cond b ((t, suc k) ∷ []) []) → Runs T (suc k) (walk T y k s)
      go true e h = h.0
      go false e h = absurd (false≢true e)

      last : (k j : ℕ) → j < suc k → (j ≡ k) ⊎ (j < k)
      last k j l = ⊎_elim (λ i. inl (omega arith)) (λ i. inr i) (last_or k (suc j) l)

-- the events of the steps 1 .. n
module _ (T : Table) (y : ℕ → ℕ → Bool) where
  abbrev pub steps : ℕ → Plan
  steps n = each n (λ t. stepped (y t) t (events T))

  pub run-steps : (n : ℕ) → run T (initially T) (steps n) ≡ walk_steps T y n
  unfolding run walk_steps each
  run-steps zero = refl
  run-steps (suc n) = run-append T (initially T) (steps n) _ ∙ rw (run-steps n) (run-stepped T (y (suc n)) (suc n) (walk_steps T y n) (events T))

  pub Run-steps : (n : ℕ) → ((s k : ℕ) → s < n → k < events T → y (suc s) (suc k) ≡ true → Runs T (suc k) (walk T (y (suc s)) k (walk_steps T y s))) → Run T (initially T) (steps n)
  unfolding each
  Run-steps zero h = tt
  Run-steps (suc n) h = Run-append T (initially T) (steps n) _ (Run-steps n (λ s k l. h s k (omega arith))) (rw (run-steps n) (Run-stepped T (y (suc n)) (suc n) (walk_steps T y n) (events T) (λ k. h n k (omega arith))))

  pub steps-Run : (n : ℕ) → Run T (initially T) (steps n) → (s k : ℕ) → s < n → k < events T → y (suc s) (suc k) ≡ true → Runs T (suc k) (walk T (y (suc s)) k (walk_steps T y s))
  unfolding each
  steps-Run zero h s k l m e = absurd (omega arith)
  steps-Run (suc n) h s k l m e =
      ⊎_elim (λ i. go s i e) (λ i. steps-Run n (Run-left T (initially T) (steps n) _ h) s k i m e) (last_or n (suc s) l)
    where
      here : (k : ℕ) → k < events T → y (suc n) (suc k) ≡ true → Runs T (suc k) (walk T (y (suc n)) k (walk_steps T y n))
      here = stepped-Run T (y (suc n)) (suc n) (walk_steps T y n) (events T) (rw (run-steps n) at (Run-right T (initially T) (steps n) _ h))

      go : (s : ℕ) → suc s ≡ suc n → y (suc s) (suc k) ≡ true → Runs T (suc k) (walk T (y (suc s)) k (walk_steps T y s))
      go s i e = let j : s ≡ n = omega arith in rw j (here k m (rw j at e))

-- Rising

-- each is before all that come after it
abbrev pub Ordered : Plan → Type 0
Ordered [] = Unit {0}
Ordered (x ∷ π) = AllByRecursion (Before x) π × Ordered π

pub before-trans : (x y z : ℕ × ℕ) → Before x y → Before y z → Before x z
before-trans x y z (inl a) (inl b) = inl (omega arith)
before-trans x y z (inl a) (inr b) = inl (omega arith)
before-trans x y z (inr a) (inl b) = inl (omega arith)
before-trans x y z (inr a) (inr b) = inr (omega arith, omega arith)

pub before-not : (x y : ℕ × ℕ) → Before x y → Before y x → ⊥
before-not x y (inl a) (inl b) = omega arith
before-not x y (inl a) (inr b) = omega arith
before-not x y (inr a) (inl b) = omega arith
before-not x y (inr a) (inr b) = omega arith

pub ordered-rising : (π : Plan) → Ordered π → Rising π
ordered-rising [] h = tt
ordered-rising (x ∷ []) h = tt
ordered-rising (x ∷ y ∷ π) h = (h.0.0, ordered-rising (y ∷ π) h.1)

pub rising-ordered : (π : Plan) → Rising π → Ordered π
rising-ordered [] h = tt
rising-ordered (x ∷ []) h = (tt, tt)
rising-ordered (x ∷ y ∷ π) h = let k = rising-ordered (y ∷ π) h.1 in ((h.0, All-weaker (Before y) (Before x) (λ z. before-trans x y z h.0) π k.0), k)

pub ordered-append : (π ρ : Plan) → Ordered π → Ordered ρ → AllByRecursion (λ x. AllByRecursion (Before x) ρ) π → Ordered (π ++ ρ)
ordered-append [] ρ h k b = k
ordered-append (x ∷ π) ρ h k b = (All-append (Before x) π ρ h.0 b.0, ordered-append π ρ h.1 k b.1)

pub stepped-placed : (y : ℕ → Bool) (t k : ℕ) → AllByRecursion (λ x. (x.0 ≡ t) × (1 ≤ x.1) × (x.1 ≤ k) × (y x.1 ≡ true)) (stepped y t k)
stepped-placed y t k = each_all _ k (λ e. cond (y e) ((t, e) ∷ []) []) (λ e u v. in-only (λ x. (x.0 ≡ t) × (1 ≤ x.1) × (x.1 ≤ k) × (y x.1 ≡ true)) (y e) ((t, e) ∷ []) (λ i. ((refl, u, v, i), tt)))

pub steps-placed : (T : Table) (y : ℕ → ℕ → Bool) (n : ℕ) → AllByRecursion (λ x. Placed T n x × (y x.0 x.1 ≡ true)) (steps T y n)
steps-placed T y n = each_all _ n (λ t. stepped (y t) t (events T)) (λ t u v. All-weaker (λ x. (x.0 ≡ t) × (1 ≤ x.1) × (x.1 ≤ events T) × (y t x.1 ≡ true)) (λ x. Placed T n x × (y x.0 x.1 ≡ true))
    (λ x h. ((omega arith, omega arith, h.1, h.2), ap (λ i. y i x.1) h.0 ∙ h.3)) (stepped (y t) t (events T)) (stepped-placed (y t) t (events T)))

pub stepped-ordered : (y : ℕ → Bool) (t k : ℕ) → Ordered (stepped y t k)
unfolding each
stepped-ordered y t zero = tt
stepped-ordered y t (suc k) = ordered-append (stepped y t k) (cond (y (suc k)) ((t, suc k) ∷ []) []) (stepped-ordered y t k) (go (y (suc k)))
    (All-weaker _ (λ x. AllByRecursion (Before x) (cond (y (suc k)) ((t, suc k) ∷ []) [])) (λ x h. in-only (Before x) (y (suc k)) ((t, suc k) ∷ []) (λ i. (inr (h.0, omega arith), tt))) (stepped y t k) (stepped-placed y t k))
  where
    go : (b : Bool) → Ordered (cond b ((t, suc k) ∷ []) [])
    go true = (tt, tt)
    go false = tt

pub steps-ordered : (T : Table) (y : ℕ → ℕ → Bool) (n : ℕ) → Ordered (steps T y n)
unfolding each
steps-ordered T y zero = tt
steps-ordered T y (suc n) = ordered-append (steps T y n) (stepped (y (suc n)) (suc n) (events T)) (steps-ordered T y n) (stepped-ordered (y (suc n)) (suc n) (events T))
    (All-weaker _ (λ x. AllByRecursion (Before x) (stepped (y (suc n)) (suc n) (events T))) (λ x h. All-weaker _ (Before x) (λ z k. inl (omega arith)) (stepped (y (suc n)) (suc n) (events T)) (stepped-placed (y (suc n)) (suc n) (events T))) (steps T y n) (steps-placed T y n))

-- A working choice of events is a valid plan, and the other way round

pub works-valid : (T : Table) (n : ℕ) (y : ℕ → ℕ → Bool) → Works T n y → Valid T n (plan_from T n y)
unfolding plan_from
works-valid T n y w = record {
  placed = All-weaker _ (Placed T n) (λ x h. h.0) (steps T y n) (steps-placed T y n);
  rising = ordered-rising (steps T y n) (steps-ordered T y n);
  runs = Run-steps T y n w.running;
  goals = rw (run-steps T y n) w.goals;
  closed = rw (run-steps T y n) w.closed;
}

pub valid-works : (T : Table) (n : ℕ) (y : ℕ → ℕ → Bool) → Valid T n (plan_from T n y) → Works T n y
unfolding plan_from
valid-works T n y w = record {
  running = steps-Run T y n w.runs;
  goals = rw (run-steps T y n) at w.goals;
  closed = rw (run-steps T y n) at w.closed;
}

-- What is in a plan

pub all-in_step : (P : ℕ × ℕ → Type 0) (π : Plan) → AllByRecursion P π → (t e : ℕ) → in_step π t e ≡ true → P (t, e)
unfolding in_step
all-in_step P [] h t e i = absurd (false≢true i)
all-in_step P (x ∷ π) h t e i = ⊎_elim (λ j. let k = and_parts (eqb x.0 t) (eqb x.1 e) j in subst P (λ i. (eqb-true x.0 t k.0 i, eqb-true x.1 e k.1 i)) h.0) (λ j. all-in_step P π h.1 t e j) (or_cases (eqb x.0 t && eqb x.1 e) (in_step π t e) i)

pub in_step-left : (π ρ : Plan) (t e : ℕ) → in_step π t e ≡ true → in_step (π ++ ρ) t e ≡ true
unfolding in_step
in_step-left [] ρ t e h = absurd (false≢true h)
in_step-left (x ∷ π) ρ t e h = ⊎_elim (λ j. or_left (eqb x.0 t && eqb x.1 e) (in_step (π ++ ρ) t e) j) (λ j. or_right (eqb x.0 t && eqb x.1 e) (in_step (π ++ ρ) t e) (in_step-left π ρ t e j)) (or_cases (eqb x.0 t && eqb x.1 e) (in_step π t e) h)

pub in_step-right : (π ρ : Plan) (t e : ℕ) → in_step ρ t e ≡ true → in_step (π ++ ρ) t e ≡ true
unfolding in_step
in_step-right [] ρ t e h = h
in_step-right (x ∷ π) ρ t e h = or_right (eqb x.0 t && eqb x.1 e) (in_step (π ++ ρ) t e) (in_step-right π ρ t e h)

pub in_step-each : (n : ℕ) (f : ℕ → Plan) (t e : ℕ) → Each n (λ i. in_step (f i) t e ≡ true → in_step (each n f) t e ≡ true)
unfolding each
in_step-each zero f t e i u v h = absurd (omega arith)
in_step-each (suc n) f t e i u v h = ⊎_elim (λ j. in_step-right (each n f) (f (suc n)) t e (rw (← j) h)) (λ j. in_step-left (each n f) (f (suc n)) t e (in_step-each n f t e i u j h)) (last_or n i v)

pub in_step-here : (t e : ℕ) (π : Plan) → in_step ((t, e) ∷ π) t e ≡ true
unfolding in_step
in_step-here t e π = or_left (eqb t t && eqb e e) (in_step π t e) (and_from (eqb t t) (eqb e e) (eq-eqb t t refl) (eq-eqb e e refl))

pub in_step-plan_from : (T : Table) (n : ℕ) (y : ℕ → ℕ → Bool) (t e : ℕ) → Placed T n (t, e) → y t e ≡ true → in_step (plan_from T n y) t e ≡ true
unfolding plan_from
in_step-plan_from T n y t e h i = in_step-each n (λ t. stepped (y t) t (events T)) t e t h.0 h.1 (in_step-each (events T) (λ e. cond (y t e) ((t, e) ∷ []) []) t e e h.2 h.3 (rw i (in_step-here t e [])))

pub plan_from-placed : (T : Table) (n : ℕ) (y : ℕ → ℕ → Bool) (t e : ℕ) → in_step (plan_from T n y) t e ≡ true → Placed T n (t, e) × (y t e ≡ true)
unfolding plan_from
plan_from-placed T n y t e h = all-in_step (λ x. Placed T n x × (y x.0 x.1 ≡ true)) (steps T y n) (steps-placed T y n) t e h

-- Rising plans with the same events in the same steps are one plan

in_step-head : (x z : ℕ × ℕ) (π ρ : Plan) → ((t e : ℕ) → in_step (x ∷ π) t e ≡ true → in_step (z ∷ ρ) t e ≡ true) → AllByRecursion (Before z) ρ → (z ≡ x) ⊎ Before z x
unfolding in_step
in_step-head x z π ρ h b = ⊎_elim (λ j. let k = and_parts (eqb z.0 x.0) (eqb z.1 x.1) j in inl (λ i. (eqb-true z.0 x.0 k.0 i, eqb-true z.1 x.1 k.1 i)))
    (λ j. inr (all-in_step (Before z) ρ b x.0 x.1 j)) (or_cases (eqb z.0 x.0 && eqb z.1 x.1) (in_step ρ x.0 x.1) (h x.0 x.1 (in_step-here x.0 x.1 π)))

in_step-tail : (x : ℕ × ℕ) (π ρ : Plan) → AllByRecursion (Before x) π → ((t e : ℕ) → in_step (x ∷ π) t e ≡ true → in_step (x ∷ ρ) t e ≡ true) → (t e : ℕ) → in_step π t e ≡ true → in_step ρ t e ≡ true
unfolding in_step
in_step-tail x π ρ b h t e i = ⊎_elim
    (λ j. let k = and_parts (eqb x.0 t) (eqb x.1 e) j in absurd (go (eqb-true x.0 t k.0) (eqb-true x.1 e k.1) (all-in_step (Before x) π b t e i)))
    (λ j. j) (or_cases (eqb x.0 t && eqb x.1 e) (in_step ρ t e) (h t e (or_right (eqb x.0 t && eqb x.1 e) (in_step π t e) i)))
  where
    go : x.0 ≡ t → x.1 ≡ e → Before x (t, e) → ⊥
    go p q (inl a) = omega arith
    go p q (inr a) = omega arith

pub same-plan : (π ρ : Plan) → Ordered π → Ordered ρ → ((t e : ℕ) → in_step π t e ≡ true → in_step ρ t e ≡ true) → ((t e : ℕ) → in_step ρ t e ≡ true → in_step π t e ≡ true) → π ≡ ρ
same-plan [] [] a b f g = refl
same-plan [] (z ∷ ρ) a b f g = absurd (false≢true (unfold in_step in g z.0 z.1 (in_step-here z.0 z.1 ρ)))
same-plan (x ∷ π) [] a b f g = absurd (false≢true (unfold in_step in f x.0 x.1 (in_step-here x.0 x.1 π)))
same-plan (x ∷ π) (z ∷ ρ) a b f g =
    let e : z ≡ x = go (in_step-head x z π ρ f b.0) (in_step-head z x ρ π g a.0) in
    let f' : (t e : ℕ) → in_step (x ∷ π) t e ≡ true → in_step (x ∷ ρ) t e ≡ true = rw e at f in
    let g' : (t e : ℕ) → in_step (x ∷ ρ) t e ≡ true → in_step (x ∷ π) t e ≡ true = rw e at g in
    let b' : AllByRecursion (Before x) ρ = rw e at b.0 in
    ap₂ ◌∷◌ (sym e) (same-plan π ρ a.1 b.1 (in_step-tail x π ρ a.0 f') (in_step-tail x ρ π b' g'))
  where
    go : (z ≡ x) ⊎ Before z x → (x ≡ z) ⊎ Before x z → z ≡ x
    go (inl e) k = e
    go (inr h) (inl e) = sym e
    go (inr h) (inr k) = absurd (before-not x z k h)

pub plan_from-in_step : (T : Table) (n : ℕ) (π : Plan) → AllByRecursion (Placed T n) π → Rising π → plan_from T n (in_step π) ≡ π
plan_from-in_step T n π h r = same-plan (plan_from T n (in_step π)) π (unfold plan_from in steps-ordered T (in_step π) n) (rising-ordered π r) (λ t e i. (plan_from-placed T n (in_step π) t e i).1) (λ t e i. in_step-plan_from T n (in_step π) t e (all-in_step (Placed T n) π h t e i) i)
