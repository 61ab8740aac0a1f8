-- Unit propagation with case splits, as a computed test, and its soundness: what it finds holds under every assignment that satisfies the clauses.
-- Assumes nothing.
use Rattle.std.proofs.Common.{◌≡◌, ℕ, zero, suc, Bool, true, false, cond, not, ◌&&◌, ◌||◌, eqb, List, [], ◌∷◌, refl, ap, ◌∙◌, ⊎_elim}
use Rattle.std.specs.List.{AllByRecursion}
use Rattle.std.proofs.lemmas.Bool.{true≢false, false≢true, eqb-true, and_parts, or_cases}
use Rattle.encoding.specs.Clauses.{Literal, is, isnt, literal_holds, clause_holds, Satisfies}

-- whether two literals are the same, and whether one denies the other
unfoldable pub same_literal : Literal ℕ → Literal ℕ → Bool
same_literal (is v) (is w) = eqb v w
same_literal (is v) (isnt w) = false
same_literal (isnt v) (is w) = false
same_literal (isnt v) (isnt w) = eqb v w

unfoldable pub denies : Literal ℕ → Literal ℕ → Bool
denies (is v) (is w) = false
denies (is v) (isnt w) = eqb v w
denies (isnt v) (is w) = eqb v w
denies (isnt v) (isnt w) = false

unfoldable pub some_literal : (Literal ℕ → Bool) → List (Literal ℕ) → Bool
some_literal f [] = false
some_literal f (l ∷ ls) = f l || some_literal f ls

-- What is known: a contradiction, or literals that hold
pub data Known : Type 0 where
  clash : Known
  know : List (Literal ℕ) → Known

-- the literals of a clause that no known one denies
unfoldable pub left : List (Literal ℕ) → List (Literal ℕ) → List (Literal ℕ)
left k [] = []
left k (l ∷ c) = cond (some_literal (denies l) k) (left k c) (l ∷ left k c)

-- what a clause's literals left say
unfoldable pub learn : List (Literal ℕ) → List (Literal ℕ) → Known
learn k [] = clash
learn k (l ∷ []) = know (cond (some_literal (same_literal l) k) k (l ∷ k))
learn k (l ∷ m ∷ c) = know k

unfoldable pub pass : Known → List (List (Literal ℕ)) → Known
pass clash cs = clash
pass (know k) [] = know k
pass (know k) (c ∷ cs) = pass (learn k (left k c)) cs

unfoldable pub passes : ℕ → Known → List (List (Literal ℕ)) → Known
passes zero k cs = k
passes (suc n) k cs = passes n (pass k cs) cs

-- so many passes, and then a case split on a variable or the end
pub data Search : Type 0 where
  done : ℕ → Search
  split : ℕ → ℕ → Search → Search → Search

unfoldable pub assume : Literal ℕ → Known → Known
assume l clash = clash
assume l (know k) = know (l ∷ k)

unfoldable pub knows_all : List (Literal ℕ) → Known → Bool
knows_all goals clash = true
knows_all [] (know k) = true
knows_all (g ∷ gs) (know k) = some_literal (same_literal g) k && knows_all gs (know k)

-- whether the search ends in a contradiction or with the goals known, in each case
unfoldable pub forces : List (List (Literal ℕ)) → List (Literal ℕ) → Search → Known → Bool
forces cs gs (done n) k = knows_all gs (passes n k cs)
forces cs gs (split n v x y) k = forces cs gs x (assume (is v) (passes n k cs)) && forces cs gs y (assume (isnt v) (passes n k cs))

module _ (σ : ℕ → Bool) where
  abbrev True : Literal ℕ → Type 0
  True l = literal_holds σ l ≡ true

  abbrev Holds : Known → Type 0
  Holds clash = ⊥
  Holds (know k) = AllByRecursion True k

  not-both : (b : Bool) → b ≡ true → not b ≡ true → ⊥
  not-both true p q = false≢true q
  not-both false p q = false≢true p

  denied : (l m : Literal ℕ) → denies l m ≡ true → True l → True m → ⊥
  unfolding denies
  denied (is v) (is w) d p q = false≢true d
  denied (is v) (isnt w) d p q = not-both (σ v) p (ap (λ x. not (σ x)) (eqb-true v w d) ∙ q)
  denied (isnt v) (is w) d p q = not-both (σ v) (ap σ (eqb-true v w d) ∙ q) p
  denied (isnt v) (isnt w) d p q = false≢true d

  some_denied : (l : Literal ℕ) (k : List (Literal ℕ)) → some_literal (denies l) k ≡ true → AllByRecursion True k → literal_holds σ l ≡ false
  unfolding some_literal
  some_denied l [] d h = absurd (false≢true d)
  some_denied l (m ∷ k) d h = ⊎_elim (λ e. go (literal_holds σ l) refl e) (λ e. some_denied l k e h.1) (or_cases (denies l m) (some_literal (denies l) k) d)
    where
      go : (b : Bool) → literal_holds σ l ≡ b → denies l m ≡ true → b ≡ false
      go true e d = absurd (denied l m d e h.0)
      go false e d = refl

  same_true : (l m : Literal ℕ) → same_literal l m ≡ true → True m → True l
  unfolding same_literal
  same_true (is v) (is w) d q = ap σ (eqb-true v w d) ∙ q
  same_true (is v) (isnt w) d q = absurd (false≢true d)
  same_true (isnt v) (is w) d q = absurd (false≢true d)
  same_true (isnt v) (isnt w) d q = ap (λ x. not (σ x)) (eqb-true v w d) ∙ q

  some-true : (l : Literal ℕ) (k : List (Literal ℕ)) → some_literal (same_literal l) k ≡ true → AllByRecursion True k → True l
  unfolding some_literal
  some-true l [] d h = absurd (false≢true d)
  some-true l (m ∷ k) d h = ⊎_elim (λ e. same_true l m e h.0) (λ e. some-true l k e h.1) (or_cases (same_literal l m) (some_literal (same_literal l) k) d)

  left-holds : (k c : List (Literal ℕ)) → AllByRecursion True k → clause_holds σ c ≡ true → clause_holds σ (left k c) ≡ true
  unfolding left
  left-holds k [] h e = e
  left-holds k (l ∷ c) h e = go (some_literal (denies l) k) refl (left-holds k c h)
    where
      cases : (a b : Bool) → (a || b) ≡ true → a ≡ false → b ≡ true
      cases true b p q = absurd (true≢false q)
      cases false b p q = p

      keep : (a b c : Bool) → (a || b) ≡ true → (b ≡ true → c ≡ true) → (a || c) ≡ true
      keep true b c p f = refl
      keep false b c p f = f p

      go : (b : Bool) → some_literal (denies l) k ≡ b → (clause_holds σ c ≡ true → clause_holds σ (left k c) ≡ true) → clause_holds σ (cond b (left k c) (l ∷ left k c)) ≡ true
      go true d i = i (cases (literal_holds σ l) (clause_holds σ c) e (some_denied l k d h))
      go false d i = keep (literal_holds σ l) (clause_holds σ c) (clause_holds σ (left k c)) e i

  learn-holds : (k c : List (Literal ℕ)) → AllByRecursion True k → clause_holds σ c ≡ true → Holds (learn k c)
  unfolding learn
  learn-holds k [] h e = false≢true e
  learn-holds k (l ∷ []) h e = go (some_literal (same_literal l) k)
    where
      alone : (b : Bool) → (b || false) ≡ true → b ≡ true
      alone true p = refl
      alone false p = p

      go : (b : Bool) → AllByRecursion True (cond b k (l ∷ k))
      go true = h
      go false = (alone (literal_holds σ l) e, h)
  learn-holds k (l ∷ m ∷ c) h e = h

  pass-holds : (k : Known) (cs : List (List (Literal ℕ))) → Satisfies σ cs → Holds k → Holds (pass k cs)
  unfolding pass
  pass-holds clash cs s h = h
  pass-holds (know k) [] s h = h
  pass-holds (know k) (c ∷ cs) s h = pass-holds (learn k (left k c)) cs s.1 (learn-holds k (left k c) h (left-holds k c h s.0))

  passes-hold : (n : ℕ) (k : Known) (cs : List (List (Literal ℕ))) → Satisfies σ cs → Holds k → Holds (passes n k cs)
  unfolding passes
  passes-hold zero k cs s h = h
  passes-hold (suc n) k cs s h = passes-hold n (pass k cs) cs s (pass-holds k cs s h)

  assume-holds : (l : Literal ℕ) (k : Known) → True l → Holds k → Holds (assume l k)
  unfolding assume
  assume-holds l clash e h = h
  assume-holds l (know k) e h = (e, h)

  goals-hold : (gs : List (Literal ℕ)) (k : Known) → knows_all gs k ≡ true → Holds k → AllByRecursion True gs
  unfolding knows_all
  goals-hold gs clash e h = absurd h
  goals-hold [] (know k) e h = tt
  goals-hold (g ∷ gs) (know k) e h = let p = and_parts (some_literal (same_literal g) k) (knows_all gs (know k)) e in (some-true g k p.0 h, goals-hold gs (know k) p.1 h)

  pub forced : (cs : List (List (Literal ℕ))) (gs : List (Literal ℕ)) (x : Search) (k : Known) → forces cs gs x k ≡ true → Satisfies σ cs → Holds k → AllByRecursion True gs
  unfolding forces
  forced cs gs (done n) k e s h = goals-hold gs (passes n k cs) e (passes-hold n k cs s h)
  forced cs gs (split n v x y) k e s h =
      let p = and_parts (forces cs gs x (assume (is v) (passes n k cs))) (forces cs gs y (assume (isnt v) (passes n k cs))) e in
      go (σ v) refl (λ b. forced cs gs x (assume (is v) (passes n k cs)) p.0 s (assume-holds (is v) (passes n k cs) b (passes-hold n k cs s h)))
      (λ b. forced cs gs y (assume (isnt v) (passes n k cs)) p.1 s (assume-holds (isnt v) (passes n k cs) b (passes-hold n k cs s h)))
    where
      go : (b : Bool) → σ v ≡ b → (σ v ≡ true → AllByRecursion True gs) → (not (σ v) ≡ true → AllByRecursion True gs) → AllByRecursion True gs
      go true e f g = f e
      go false e f g = g (ap not e)
