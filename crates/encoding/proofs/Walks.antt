-- A fact along the turns of a step, and an action along them.
-- Assumes nothing.
use Rattle.std.proofs.Common.{◌≡◌, ℕ, zero, suc, ◌+◌, ◌-◌, ◌*◌, ◌%◌, ◌<◌, ◌≤◌, Bool, true, false, cond, not, ◌&&◌, ◌||◌, eqb, ltb, ◌≢◌, sym, refl, ◌∙◌, subst, ⊎_elim, arith}
use native.Mathlib.Nat.{sub-zero}
use Rattle.std.proofs.lemmas.Bool.{or_parts, eq-eqb, ne_eqb, ltb-true, ltb-false}
use Rattle.encoding.specs.Ranges.{Each}
use Rattle.encoding.specs.Tables.{Table, events, owner, relevant, requires, starts}
use Rattle.encoding.specs.Plans.{State, after}
use Rattle.encoding.specs.Variables.{V, Var, X}
use Rattle.encoding.specs.Clauses.{next}
use Rattle.encoding.specs.Turns.{walk}
use Rattle.encoding.proofs.Ranges.{last_or}
use Rattle.encoding.proofs.Says.{Turn}

pub walk-holds : (T : Table) (y : ℕ → Bool) (k : ℕ) (s : State) (p : ℕ)
    → (walk T y (suc k) s).holds p ≡ cond (y (suc k)) (T.adds (suc k) p || ((walk T y k s).holds p && not (T.deletes (suc k) p))) ((walk T y k s).holds p)
unfolding walk after
walk-holds T y k s p = go (y (suc k))
  where
    go : (b : Bool) → (cond b (after T (suc k) (walk T y k s)) (walk T y k s)).holds p ≡ cond b (T.adds (suc k) p || ((walk T y k s).holds p && not (T.deletes (suc k) p))) ((walk T y k s).holds p)
    go true = refl
    go false = refl

pub walk-open : (T : Table) (y : ℕ → Bool) (k : ℕ) (s : State) (a : ℕ)
    → (walk T y (suc k) s).is_open a ≡ cond (y (suc k)) (cond (eqb a (owner (suc k))) (starts (suc k)) ((walk T y k s).is_open a)) ((walk T y k s).is_open a)
unfolding walk after
walk-open T y k s a = go (y (suc k))
  where
    go : (b : Bool) → (cond b (after T (suc k) (walk T y k s)) (walk T y k s)).is_open a ≡ cond b (cond (eqb a (owner (suc k))) (starts (suc k)) ((walk T y k s).is_open a)) ((walk T y k s).is_open a)
    go true = refl
    go false = refl

-- Facts

pub next-step : (T : Table) (t p k : ℕ) → k < events T → next T t p (events T - k) (suc k) ≡ cond (relevant T (suc k) p) (V t (suc k) p) (next T t p (events T - suc k) (suc (suc k)))
unfolding next
next-step T t p k l = let e : events T - k ≡ suc (events T - suc k) = omega arith in rw e

pub next_last : (T : Table) (t p : ℕ) → next T t p (events T - events T) (suc (events T)) ≡ X t p
unfolding next
next_last T t p = let e : events T - events T ≡ 0 = omega arith in rw e

abbrev pub Turns : Table → (ℕ → Bool) → (Var → Bool) → ℕ → ℕ → Type 0
Turns T y τ t p = Each (events T) (λ e. relevant T e p ≡ true → Turn (requires T e p) (T.adds e p) (T.deletes e p) (y e) (τ (V t e p)) (τ (next T t p (events T - e) (suc e))))

module _ (T : Table) (y : ℕ → Bool) (s : State) (τ : Var → Bool) (t p : ℕ) where
  -- one turn
  turn_holds : (k : ℕ) (r : Bool) → relevant T (suc k) p ≡ r → (w : Var) → (r ≡ true → Turn (requires T (suc k) p) (T.adds (suc k) p) (T.deletes (suc k) p) (y (suc k)) (τ (V t (suc k) p)) (τ w))
      → τ (cond r (V t (suc k) p) w) ≡ (walk T y k s).holds p → τ w ≡ (walk T y (suc k) s).holds p
  unfolding relevant
  turn_holds k true e w l h = rw (walk-holds T y k s p, (l refl).1, h)
  turn_holds k false e w l h =
      let q = or_parts (requires T (suc k) p) (T.adds (suc k) p || T.deletes (suc k) p) e in
      let u = or_parts (T.adds (suc k) p) (T.deletes (suc k) p) q.1 in
      rw (walk-holds T y k s p, u.0, u.1, h) (go (y (suc k)) ((walk T y k s).holds p))
    where
      go : (b h : Bool) → h ≡ cond b (false || (h && not false)) h
      go b h = grind arith

  pub truth-holds : τ (next T t p (events T) 1) ≡ s.holds p → Turns T y τ t p → (k : ℕ) → k ≤ events T → τ (next T t p (events T - k) (suc k)) ≡ (walk T y k s).holds p
  unfolding walk
  truth-holds b l zero m = rw sub-zero b
  truth-holds b l (suc k) m =
      turn_holds k (relevant T (suc k) p) refl (next T t p (events T - suc k) (suc (suc k))) (λ r. l (suc k) (omega arith) m r) (subst (λ v. τ v ≡ (walk T y k s).holds p) (next-step T t p k m) (truth-holds b l k (omega arith)))

  pub truth-at : τ (next T t p (events T) 1) ≡ s.holds p → Turns T y τ t p → (k : ℕ) → k < events T → relevant T (suc k) p ≡ true → τ (V t (suc k) p) ≡ (walk T y k s).holds p
  truth-at b l k m r = subst (λ c. τ (cond c (V t (suc k) p) (next T t p (events T - suc k) (suc (suc k)))) ≡ (walk T y k s).holds p) r (subst (λ v. τ v ≡ (walk T y k s).holds p) (next-step T t p k m) (truth-holds b l k (omega arith)))

  pub truth-end : τ (next T t p (events T) 1) ≡ s.holds p → Turns T y τ t p → τ (X t p) ≡ (walk T y (events T) s).holds p
  truth-end b l = subst (λ v. τ v ≡ (walk T y (events T) s).holds p) (next_last T t p) (truth-holds b l (events T) (omega arith))

-- Actions

module _ (T : Table) (y : ℕ → Bool) (s : State) (a : ℕ) where
  pub open-other : (k : ℕ) → a ≢ owner (suc k) → (walk T y (suc k) s).is_open a ≡ (walk T y k s).is_open a
  open-other k ne = rw (walk-open T y k s a, ne_eqb a (owner (suc k)) ne) (go (y (suc k)) ((walk T y k s).is_open a))
    where
      go : (b h : Bool) → cond b h h ≡ h
      go b h = grind arith

  -- before the turn of its start
  pub open-early : (k : ℕ) → k + 1 < 2 * a → (walk T y k s).is_open a ≡ s.is_open a
  unfolding walk owner
  open-early zero l = refl
  open-early (suc k) l = open-other k (λ e. omega arith) ∙ open-early k (omega arith)

  -- between its start and its end
  pub open-mid : (k : ℕ) → suc (suc k) ≡ 2 * a → (walk T y (suc k) s).is_open a ≡ (s.is_open a || y (suc k))
  unfolding owner starts
  open-mid k e = rw (walk-open T y k s a, eq-eqb a (owner (suc k)) (omega arith), eq-eqb (suc k % 2) 1 (omega arith), open-early k (omega arith)) (go (y (suc k)) (s.is_open a))
    where
      go : (b h : Bool) → cond b true h ≡ (h || b)
      go b h = grind arith

  pub open-end : (k : ℕ) → suc (suc k) ≡ 2 * a → (walk T y (suc (suc k)) s).is_open a ≡ ((s.is_open a || y (suc k)) && not (y (suc (suc k))))
  unfolding owner starts
  open-end k e = rw (walk-open T y (suc k) s a, eq-eqb a (owner (suc (suc k))) (omega arith), ne_eqb (suc (suc k) % 2) 1 (omega arith), open-mid k e) (go (y (suc (suc k))) (s.is_open a || y (suc k)))
    where
      go : (b h : Bool) → cond b false h ≡ (h && not b)
      go b h = grind arith

  -- after its end
  pub open-late : (k j : ℕ) → suc (suc k) ≡ 2 * a → suc (suc k) ≤ j → (walk T y j s).is_open a ≡ ((s.is_open a || y (suc k)) && not (y (suc (suc k))))
  unfolding owner
  open-late k zero e l = absurd (omega arith)
  open-late k (suc j) e l = ⊎_elim (λ i. rw (← i) (open-end k e)) (λ m. open-other j (λ i. omega arith) ∙ open-late k j e m) (last_or j (suc (suc k)) l)

  pub open-through : (j : ℕ) → 1 ≤ a → 2 * a ≤ j → (walk T y j s).is_open a ≡ ((s.is_open a || y (2 * a - 1)) && not (y (2 * a)))
  open-through j u l =
      let e : suc (suc (2 * a - 2)) ≡ 2 * a = omega arith in
      let i : suc (2 * a - 2) ≡ 2 * a - 1 = omega arith in
      rw (← i) (go e)
    where
      go : suc (suc (2 * a - 2)) ≡ 2 * a → (walk T y j s).is_open a ≡ ((s.is_open a || y (suc (2 * a - 2))) && not (y (2 * a)))
      go e = subst (λ x. (walk T y j s).is_open a ≡ ((s.is_open a || y (suc (2 * a - 2))) && not (y x))) e (open-late (2 * a - 2) j e (omega arith))

  -- at the turn of another's event
  pub open_at : (k : ℕ) → 1 ≤ a → a ≤ T.actions → k < events T → a ≢ owner (suc k) → (walk T y k s).is_open a ≡ cond (ltb a (owner (suc k))) ((walk T y (events T) s).is_open a) (s.is_open a)
  unfolding owner
  open_at k u v l ne = go (ltb a (owner (suc k))) refl
    where
      go : (b : Bool) → ltb a (owner (suc k)) ≡ b → (walk T y k s).is_open a ≡ cond b ((walk T y (events T) s).is_open a) (s.is_open a)
      go true e = let m = ltb-true a (owner (suc k)) e in open-through k u (omega arith) ∙ sym (open-through (events T) u (omega arith))
      go false e = let m = ltb-false a (owner (suc k)) e in open-early k (omega arith)
