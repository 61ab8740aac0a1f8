-- A table whose clauses have just one satisfying assignment, from two computed tests: the assignment satisfies them, and a search forces it.
-- Assumes nothing.
use Rattle.std.proofs.Common.{◌≡◌, ℕ, Bool, true, false, cond, not, ◌&&◌, ◌↔◌, List, [], ◌∷◌, sym, refl, ◌∙◌, subst}
use Rattle.std.specs.List.{AllByRecursion}
use Rattle.std.proofs.lemmas.Bool.{and_parts, true≢false}
use Rattle.encoding.specs.Ranges.{Each, each}
use Rattle.encoding.specs.Tables.{Table}
use Rattle.encoding.specs.Plans.{Plan, Valid}
use Rattle.encoding.specs.Variables.{variables}
use Rattle.encoding.specs.Clauses.{Literal, is, isnt, literal_holds, clause_holds, Satisfies, formula}
use Rattle.encoding.specs.Values.{values, assignment, plan_of}
use Rattle.encoding.proofs.Ranges.{all-each}
use Rattle.encoding.proofs.Whole.{encodes}
use Rattle.cells.proofs.Propagation.{Search, know, forces, forced}

-- whether all clauses hold
unfoldable pub all_hold : (ℕ → Bool) → List (List (Literal ℕ)) → Bool
all_hold σ [] = true
all_hold σ (c ∷ cs) = clause_holds σ c && all_hold σ cs

hold-all : (σ : ℕ → Bool) (cs : List (List (Literal ℕ))) → all_hold σ cs ≡ true → Satisfies σ cs
unfolding all_hold
hold-all σ [] h = tt
hold-all σ (c ∷ cs) h = let p = and_parts (clause_holds σ c) (all_hold σ cs) h in (p.0, hold-all σ cs p.1)

-- the literals that say the values of the variables 1 .. N
unfoldable pub literals : (ℕ → Bool) → ℕ → List (Literal ℕ)
literals τ n = each n (λ i. cond (τ i) (is i) (isnt i) ∷ [])

literals-say : (σ τ : ℕ → Bool) (n : ℕ) → AllByRecursion (λ l. literal_holds σ l ≡ true) (literals τ n) → Each n (λ i. σ i ≡ τ i)
unfolding literals
literals-say σ τ n h i u v = go (τ i) (all-each (λ l. literal_holds σ l ≡ true) n (λ i. cond (τ i) (is i) (isnt i) ∷ []) h i u v).0
  where
    unnot : (b : Bool) → not b ≡ true → b ≡ false
    unnot true p = sym p
    unnot false p = refl

    go : (b : Bool) → literal_holds σ (cond b (is i) (isnt i)) ≡ true → σ i ≡ b
    go true e = e
    go false e = unnot (σ i) e

module _ (T : Table) (n : ℕ) (τ : ℕ → Bool) (N : ℕ) (count : variables T n ≡ N) (x : Search) (search-forces : forces (formula T n) (literals τ N) x (know []) ≡ true) (holds : all_hold τ (formula T n) ≡ true) where
  pub satisfied : Satisfies τ (formula T n)
  satisfied = hold-all τ (formula T n) holds

  pub agrees : (σ : ℕ → Bool) → Satisfies σ (formula T n) → Each N (λ i. σ i ≡ τ i)
  agrees σ h = literals-say σ τ N (forced σ (formula T n) (literals τ N) x (know []) search-forces h tt)

  pub only-this : (σ : ℕ → Bool) → Satisfies σ (formula T n) ↔ Each N (λ i. σ i ≡ τ i)
  only-this σ = (agrees σ, λ e. (encodes.local T n τ σ (subst (λ k. Each k (λ i. τ i ≡ σ i)) (sym count) (λ i u v. sym (e i u v)))).0 satisfied)

  pub valid-this : Valid T n (plan_of T n τ)
  valid-this = encodes.sound T n τ satisfied

  pub one-plan : (π : Plan) → Valid T n π → π ≡ plan_of T n τ
  one-plan π h =
      let c = encodes.complete T n π h in
      sym c.1 ∙ (encodes.local T n (assignment (values T n π)) τ (subst (λ k. Each k (λ i. assignment (values T n π) i ≡ τ i)) (sym count) (agrees (assignment (values T n π)) c.0))).1

-- clauses that force a variable to be true and false have no plan
pub no-plan : (T : Table) (n : ℕ) (x : Search) → forces (formula T n) (is 1 ∷ isnt 1 ∷ []) x (know []) ≡ true → (π : Plan) → Valid T n π → ⊥
no-plan T n x f π h =
    let σ : ℕ → Bool = assignment (values T n π) in
    let k = forced σ (formula T n) (is 1 ∷ isnt 1 ∷ []) x (know []) f (encodes.complete T n π h).0 tt in
    go (σ 1) k.0 k.1.0
  where
    go : (b : Bool) → b ≡ true → not b ≡ true → ⊥
    go true p q = true≢false (sym q)
    go false p q = true≢false (sym p)
