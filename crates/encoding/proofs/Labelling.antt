-- The labelled list is the clause list, and its first false clause is the one that `first_false` finds.
-- Assumes nothing.
use Rattle.std.proofs.Common.{◌≡◌, ℕ, zero, suc, ◌+◌, Bool, true, false, cond, List, [], ◌∷◌, ◌++◌, map, length, Some, None, sym, refl, ap, ◌∙◌, subst, ap₂, inl, inr, arith}
use Rattle.std.specs.List.{AllByRecursion}
use Rattle.std.proofs.ByRecursion.{All-append}
use Rattle.std.proofs.lemmas.List.{map-append}
use Rattle.std.proofs.lemmas.Bool.{true≢false}
use Rattle.encoding.specs.Ranges.{Each, each}
use Rattle.encoding.specs.Tables.{Table}
use Rattle.encoding.specs.Variables.{number}
use Rattle.encoding.specs.Clauses.{Clause, Literal, Satisfies, agenda, clause_holds, formula, goal, kept, numbered, rename, start, step, truth}
use Rattle.encoding.specs.Labels.{Label, Labelled, first_false, label, labelled, labelled_step, unlabelled}
use Rattle.encoding.specs.Theorem.{Labels}
use Rattle.encoding.proofs.Ranges.{each_all, each-cong, map_each}
use Rattle.encoding.proofs.Emitting.{formula-is, numbered-append, numbered-each}

module _ (T : Table) where
  unlabelled-label : (k t : ℕ) (cs : List Clause) → unlabelled (label T k t cs) ≡ numbered T cs
  unlabelled-label k t [] = refl
  unlabelled-label k t (c ∷ cs) = ap (λ ds. map (rename (number T)) c ∷ ds) (unlabelled-label k t cs)

  -- a label over the parts of a list
  pub label-append : (k t : ℕ) (cs ds : List Clause) → label T k t (cs ++ ds) ≡ label T k t cs ++ label T k t ds
  label-append k t cs ds = ap (map (λ c. record { family = k; step = t; clause = c })) (numbered-append T cs ds) ∙ map-append (λ c. record { family = k; step = t; clause = c }) (numbered T cs) (numbered T ds)

  pub label-each : (k t n : ℕ) (f : ℕ → List Clause) → label T k t (each n f) ≡ each n (λ i. label T k t (f i))
  label-each k t n f = ap (map (λ c. record { family = k; step = t; clause = c })) (numbered-each T n f) ∙ map_each (λ c. record { family = k; step = t; clause = c }) n (λ i. numbered T (f i))

  unlabelled-append : (ls ms : List Labelled) → unlabelled (ls ++ ms) ≡ unlabelled ls ++ unlabelled ms
  unlabelled-append ls ms = map-append (λ l. l.clause) ls ms

  pub unlabelled-step : (t : ℕ) → unlabelled (labelled_step T t) ≡ numbered T (step T t)
  unfolding labelled_step step
  unlabelled-step zero = refl
  unlabelled-step (suc s) =
      unlabelled-append (label T 2 (suc s) (agenda T s) ++ label T 3 (suc s) (kept T s)) (label T 4 (suc s) (truth T s))
      ∙ ap₂ ◌++◌ (unlabelled-append (label T 2 (suc s) (agenda T s)) (label T 3 (suc s) (kept T s)) ∙ ap₂ ◌++◌ (unlabelled-label 2 (suc s) (agenda T s)) (unlabelled-label 3 (suc s) (kept T s))) (unlabelled-label 4 (suc s) (truth T s))
      ∙ sym (numbered-append T (agenda T s ++ kept T s) (truth T s) ∙ ap (λ ds. ds ++ numbered T (truth T s)) (numbered-append T (agenda T s) (kept T s)))

  pub unlabelled-labelled : (n : ℕ) → unlabelled (labelled T n) ≡ formula T n
  unfolding labelled
  unlabelled-labelled n =
      unlabelled-append (label T 1 0 (start T) ++ each n (labelled_step T)) (label T 5 n (goal T n))
      ∙ ap₂ ◌++◌ (unlabelled-append (label T 1 0 (start T)) (each n (labelled_step T))
      ∙ ap₂ ◌++◌ (unlabelled-label 1 0 (start T)) (map_each (λ l. l.clause) n (labelled_step T) ∙ each-cong n _ _ (λ t u v. unlabelled-step t))) (unlabelled-label 5 n (goal T n))
      ∙ sym (formula-is T n)

lawful : (T : Table) (n : ℕ) → AllByRecursion (λ l. Label n l.family l.step) (labelled T n)
unfolding labelled
lawful T n = All-append IsFitting (label T 1 0 (start T) ++ each n (labelled_step T)) (label T 5 n (goal T n))
    (All-append IsFitting (label T 1 0 (start T)) (each n (labelled_step T)) (one_label 1 0 (start T) (inl (refl, refl))) (each_all IsFitting n (labelled_step T) steps))
    (one_label 5 n (goal T n) (inr (inr (refl, refl))))
  where
    IsFitting : Labelled → Type 0
    IsFitting l = Label n l.family l.step

    one_label : (k t : ℕ) (cs : List Clause) → Label n k t → AllByRecursion IsFitting (label T k t cs)
    one_label k t [] h = tt
    one_label k t (c ∷ cs) h = (h, one_label k t cs h)

    steps : Each n (λ t. AllByRecursion IsFitting (labelled_step T t))
    steps zero u v = absurd (omega arith)
    steps (suc s) u v = unfold labelled_step in All-append IsFitting (label T 2 (suc s) (agenda T s) ++ label T 3 (suc s) (kept T s)) (label T 4 (suc s) (truth T s))
        (All-append IsFitting (label T 2 (suc s) (agenda T s)) (label T 3 (suc s) (kept T s)) (one_label 2 (suc s) (agenda T s) (inr (inl (omega arith, omega arith, u, v)))) (one_label 3 (suc s) (kept T s) (inr (inl (omega arith, omega arith, u, v)))))
        (one_label 4 (suc s) (truth T s) (inr (inl (omega arith, omega arith, u, v))))

module _ (σ : ℕ → Bool) where
  none-false : (k : ℕ) (ls : List Labelled) → first_false σ k ls ≡ None → Satisfies σ (unlabelled ls)
  unfolding first_false
  none-false k [] h = tt
  none-false k (l ∷ ls) h = go (clause_holds σ l.clause) refl h (none-false (suc k) ls)
    where
      go : (b : Bool) → clause_holds σ l.clause ≡ b → cond b (first_false σ (suc k) ls) (Some (k, l.family, l.step)) ≡ None → (first_false σ (suc k) ls ≡ None → Satisfies σ (unlabelled ls)) → Satisfies σ (unlabelled (l ∷ ls))
      go true e h i = (e, i h)
      go false e h i = absurd (true≢false (cc))

  all_true : (k : ℕ) (ls : List Labelled) → Satisfies σ (unlabelled ls) → first_false σ k ls ≡ None
  unfolding first_false
  all_true k [] h = refl
  all_true k (l ∷ ls) h = rw h.0 (all_true (suc k) ls h.1)

  found_at : (k : ℕ) (past : List Labelled) (x : Labelled) (rest : List Labelled) → Satisfies σ (unlabelled past) → clause_holds σ x.clause ≡ false → first_false σ k (past ++ x ∷ rest) ≡ Some (length past + k, x.family, x.step)
  unfolding first_false
  found_at k [] x rest h b = rw b (ap (λ (j : ℕ). Some (j, x.family, x.step)) (omega arith))
  found_at k (p ∷ past) x rest h b = rw h.0 (found_at (suc k) past x rest h.1 b ∙ ap (λ (j : ℕ). Some (j, x.family, x.step)) (omega arith))

  -- clause j is the first false one of a list whose first clause has place k
  record Found (k : ℕ) (ls : List Labelled) (j f t : ℕ) : Type 0 where
    past : List Labelled
    found : List (Literal ℕ)
    rest : List Labelled
    cut : ls ≡ past ++ record { family = f; step = t; clause = found } ∷ rest
    place : j ≡ length past + k
    hold : Satisfies σ (unlabelled past)
    broken : clause_holds σ found ≡ false

  found_first : (k : ℕ) (ls : List Labelled) (j f t : ℕ) → first_false σ k ls ≡ Some (j, f, t) → Found k ls j f t
  unfolding first_false
  found_first k [] j f t h = absurd (true≢false (cc))
  found_first k (l ∷ ls) j f t h = go (clause_holds σ l.clause) refl h (found_first (suc k) ls j f t)
    where
      go : (b : Bool) → clause_holds σ l.clause ≡ b → cond b (first_false σ (suc k) ls) (Some (k, l.family, l.step)) ≡ Some (j, f, t) → (first_false σ (suc k) ls ≡ Some (j, f, t) → Found (suc k) ls j f t) → Found k (l ∷ ls) j f t
      go true e h i = let g = i h in record { past = l ∷ g.past; found = g.found; rest = g.rest; cut = ap (λ ms. l ∷ ms) g.cut; place = g.place ∙ omega arith; hold = (e, g.hold); broken = g.broken }
      go false e h i = let q : ◌≡◌ {A = ℕ × ℕ × ℕ} (k, l.family, l.step) (j, f, t) = cc in record { past = []; found = l.clause; rest = ls; cut = here (ap (λ x. x.1) q) (ap (λ x. x.2) q); place = there (ap (λ x. x.0) q); hold = tt; broken = e }
        where
          here : l.family ≡ f → l.step ≡ t → l ∷ ls ≡ record { family = f; step = t; clause = l.clause } ∷ ls
          here p q = ap₂ (λ (a b : ℕ). record { family = a; step = b; clause = l.clause } ∷ ls) p q

          there : k ≡ j → j ≡ 0 + k
          there p = omega arith

pub labels : Labels
labels = record {
  same = unlabelled-labelled;
  lawful = lawful;
  none = λ T n σ. (λ h. subst (Satisfies σ) (unlabelled-labelled T n) (none-false σ 1 (labelled T n) h), λ h. all_true σ 1 (labelled T n) (subst (Satisfies σ) (sym (unlabelled-labelled T n)) h));
  first = λ T n σ k f t. (
    λ h. let g = found_first σ 1 (labelled T n) k f t h in record { past = g.past; found = g.found; rest = g.rest; cut = g.cut; place = g.place; hold = g.hold; broken = g.broken },
    λ h. ap (first_false σ 1) h.cut ∙ found_at σ 1 h.past (record { family = f; step = t; clause = h.found }) h.rest h.hold h.broken ∙ ap (λ (j : ℕ). Some (j, f, t)) (sym h.place),
  );
}
