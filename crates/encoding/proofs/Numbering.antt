-- The variables of n steps have the numbers 1 .. N, each its own.
-- Assumes nothing.
use Rattle.std.proofs.Common.{◌≡◌, ℕ, zero, suc, ◌+◌, ◌*◌, ◌<◌, Bool, true, false, cond, [], ◌∷◌, ◌++◌, map, length, get_or, sym, refl, ap, ◌∙◌, suc-mul, zero-mul, arith}
use lib.ListN.{length-map}
use Rattle.std.specs.List.{AllByRecursion}
use Rattle.std.proofs.lemmas.List.{map-append, get_or-map}
use Rattle.std.proofs.ByRecursion.{All-append}
use Rattle.encoding.specs.Ranges.{count, each, total}
use Rattle.encoding.specs.Tables.{Table, events, relevant}
use Rattle.encoding.specs.Variables.{InRange, O, Os, V, Var, Vs, X, Xs, Y, Ys, number, pairs, rank, step_size, step_vars, variables, vars, width}
use Rattle.encoding.proofs.Ranges.{each_all, each-cong, get_or-ups, in-only, length-ups, map_each, ups, ups-next}

-- a block of variables with numbers that rise by one
pub block : (k : Var → ℕ) (f : ℕ → Var) (a n : ℕ) → ((i : ℕ) → k (f i) ≡ a + i) → map k (each n (λ i. f i ∷ [])) ≡ ups a n
unfolding ups
block k f a n h = map_each k n (λ i. f i ∷ []) ∙ each-cong n _ _ (λ i u v. ap (λ x. x ∷ []) (h i))

module _ (T : Table) (s : ℕ) where
  abbrev b : ℕ
  b = variables T s

  -- the variables V of fact q + 1
  chained : (q k : ℕ) → map (number T) (each k (λ e. cond (relevant T e (suc q)) (V (suc s) e (suc q) ∷ []) [])) ≡ ups (b + events T + total q (width T)) (count k (λ e. relevant T e (suc q)))
  unfolding each count ups number rank
  chained q zero = refl
  chained q (suc k) = map-append (number T) (each k _) _
      ∙ ups-next (b + events T + total q (width T)) (b + events T + total q (width T) + n) n (cond (relevant T (suc k) (suc q)) 1 0) _ _ (chained q k) (go (relevant T (suc k) (suc q)) refl) refl
    where
      n : ℕ
      n = count k (λ e. relevant T e (suc q))

      go : (r : Bool) → relevant T (suc k) (suc q) ≡ r → map (number T) (cond r (V (suc s) (suc k) (suc q) ∷ []) []) ≡ ups (b + events T + total q (width T) + n) (cond r 1 0)
      go true e = ap (λ (x : ℕ). x ∷ []) (rw e (omega arith))
      go false e = refl

  chains : (q : ℕ) → map (number T) (each q (λ p. each (events T) (λ e. cond (relevant T e p) (V (suc s) e p ∷ []) []))) ≡ ups (b + events T) (total q (width T))
  unfolding each total ups width
  chains zero = refl
  chains (suc q) = map-append (number T) (each q _) _ ∙ ups-next (b + events T) _ (total q (width T)) (width T (suc q)) _ _ (chains q) (chained q (events T)) refl

  pub step-numbers : map (number T) (step_vars T (suc s)) ≡ ups b (step_size T)
  unfolding step_vars number pairs step_size
  step-numbers =
      let e : events T + pairs T + T.facts + T.actions ≡ step_size T = omega arith in
      map-append (number T) (Ys T (suc s) ++ Vs T (suc s) ++ Xs T (suc s)) (Os T (suc s))
      ∙ ups-next b (b + events T + pairs T + T.facts) (events T + pairs T + T.facts) T.actions _ _
      (map-append (number T) (Ys T (suc s) ++ Vs T (suc s)) (Xs T (suc s))
      ∙ ups-next b (b + events T + pairs T) (events T + pairs T) T.facts _ _
      (map-append (number T) (Ys T (suc s)) (Vs T (suc s)) ∙ ups-next b (b + events T) (events T) (pairs T) _ _ (block (number T) (Y (suc s)) b (events T) (λ i. refl)) (chains T.facts) refl)
      (block (number T) (X (suc s)) (b + events T + pairs T) T.facts (λ i. refl)) (omega arith))
      (block (number T) (O (suc s)) (b + events T + pairs T + T.facts) T.actions (λ i. refl)) (omega arith)
      ∙ ap (ups b) e

module _ (T : Table) where
  steps-numbers : (n : ℕ) → map (number T) (each n (step_vars T)) ≡ ups (T.facts + T.actions) (n * step_size T)
  unfolding each variables
  steps-numbers zero = unfold ups in rw zero-mul
  steps-numbers (suc n) = map-append (number T) (each n (step_vars T)) (step_vars T (suc n)) ∙ ups-next (T.facts + T.actions) (variables T n) (n * step_size T) (step_size T) _ _ (steps-numbers n) (step-numbers T n) refl ∙ ap (ups (T.facts + T.actions)) (sym (suc-mul n (step_size T)))

  pub all-numbers : (n : ℕ) → map (number T) (vars T n) ≡ ups 0 (variables T n)
  unfolding vars number variables
  all-numbers n = map-append (number T) (Xs T 0 ++ Os T 0) (each n (step_vars T)) ∙ ups-next 0 (T.facts + T.actions) (T.facts + T.actions) (n * step_size T) _ _
      (map-append (number T) (Xs T 0) (Os T 0) ∙ ups-next 0 T.facts T.facts T.actions _ _ (block (number T) (X 0) 0 T.facts (λ i. omega arith)) (block (number T) (O 0) T.facts T.actions (λ i. refl)) (omega arith)) (steps-numbers n) (omega arith)

  pub length-vars : (n : ℕ) → length (vars T n) ≡ variables T n
  length-vars n = sym (length-map (vars T n) (number T)) ∙ ap length (all-numbers n) ∙ length-ups 0 (variables T n)

  -- the variable at place k has the number k + 1
  pub number_at : (n k : ℕ) (d : Var) → k < variables T n → number T (get_or (vars T n) k d) ≡ suc k
  number_at n k d l =
      let m : k < length (vars T n) = rw (length-vars n) l in
      sym (get_or-map (number T) (vars T n) k d 0 m) ∙ ap (λ xs. get_or xs k 0) (all-numbers n) ∙ get_or-ups 0 (variables T n) k 0 l ∙ omega arith

  pub vars-ranged : (n : ℕ) → AllByRecursion (InRange T n) (vars T n)
  unfolding vars step_vars
  vars-ranged n = All-append (InRange T n) (Xs T 0 ++ Os T 0) (each n (step_vars T))
      (All-append (InRange T n) (Xs T 0) (Os T 0) (each_all (InRange T n) T.facts _ (λ p u v. ((omega arith, u, v), tt))) (each_all (InRange T n) T.actions _ (λ a u v. ((omega arith, u, v), tt))))
      (each_all (InRange T n) n (step_vars T) (λ t u v. All-append (InRange T n) (Ys T t ++ Vs T t ++ Xs T t) (Os T t)
      (All-append (InRange T n) (Ys T t ++ Vs T t) (Xs T t)
      (All-append (InRange T n) (Ys T t) (Vs T t)
      (each_all (InRange T n) (events T) _ (λ e w x. ((u, v, w, x), tt)))
      (each_all (InRange T n) T.facts _ (λ p w x. each_all (InRange T n) (events T) _ (λ e w' x'. in-only (InRange T n) (relevant T e p) _ (λ r. ((u, v, w', x', w, x, r), tt))))))
      (each_all (InRange T n) T.facts _ (λ p w x. ((v, w, x), tt))))
      (each_all (InRange T n) T.actions _ (λ a w x. ((v, w, x), tt)))))
