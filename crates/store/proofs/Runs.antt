-- The number store: what its memory holds once a clause and its 0 are written.
use Rattle.std.proofs.Common.{◌≡◌, ℕ, zero, suc, ◌+◌, ◌≤◌, true, List, [], ◌∷◌, ◌++◌, length, take, drop, set, ℤ, pos, negsuc, sym, refl, ap, ◌∙◌, append_assoc, append-nil, arith}
use lib.Seq.{paste}
use borrow.Rule.Slice.PartMut.{put_mid}
use Rattle.std.proofs.lemmas.List.{take_all, take_at, drop_at, drop-drop, flat_map_more, set_split, length-append, length_push, length-drop, length-take-le}
use Rattle.std.proofs.lemmas.List.Edits.{take-paste, drop-paste, length-paste}
use Rattle.std.proofs.lemmas.Slice.{put_mid-paste}
use Rattle.store.specs.Clauses.{all_literals}
use Rattle.store.specs.Numbers.{ended, numbers_of, runs, clauses_in}
use Rattle.store.proofs.Meaning.{literals-parts}

-- what is written after the last 0
rest : List ℤ → List ℤ → List ℤ
rest front [] = front
rest front (pos zero ∷ zs) = rest [] zs
rest front (pos (suc n) ∷ zs) = rest (front ++ pos (suc n) ∷ []) zs
rest front (negsuc n ∷ zs) = rest (front ++ negsuc n ∷ []) zs

runs_append : (a xs ys : List ℤ) → runs a (xs ++ ys) ≡ runs a xs ++ runs (rest a xs) ys
unfolding rest
runs_append a [] ys = refl
runs_append a (pos zero ∷ xs) ys = ap (λ r. a ∷ r) (runs_append [] xs ys)
runs_append a (pos (suc n) ∷ xs) ys = runs_append (a ++ pos (suc n) ∷ []) xs ys
runs_append a (negsuc n ∷ xs) ys = runs_append (a ++ negsuc n ∷ []) xs ys

rest-append : (a xs ys : List ℤ) → rest a (xs ++ ys) ≡ rest (rest a xs) ys
unfolding rest
rest-append a [] ys = refl
rest-append a (pos zero ∷ xs) ys = rest-append [] xs ys
rest-append a (pos (suc n) ∷ xs) ys = rest-append (a ++ pos (suc n) ∷ []) xs ys
rest-append a (negsuc n ∷ xs) ys = rest-append (a ++ negsuc n ∷ []) xs ys

rest_ended : (a c : List ℤ) → rest a (ended c) ≡ []
unfolding rest
rest_ended a c = rest-append a c (pos 0 ∷ [])

-- nothing stands after the last 0
rest-numbers : (cs : List (List ℤ)) → rest [] (numbers_of cs) ≡ []
unfolding rest
rest-numbers [] = refl
rest-numbers (c ∷ cs) = rest-append [] (ended c) (numbers_of cs) ∙ ap (λ t. rest t (numbers_of cs)) (rest_ended [] c) ∙ rest-numbers cs

runs-ended : (a c : List ℤ) → all_literals c ≡ true → runs a (ended c) ≡ (a ++ c) ∷ []
runs-ended a [] e = ap (λ r. r ∷ []) (sym (append-nil a))
runs-ended a (pos zero ∷ c) e = grind arith
runs-ended a (pos (suc n) ∷ c) e = runs-ended (a ++ pos (suc n) ∷ []) c (literals-parts (pos (suc n)) c e).1 ∙ ap (λ r. r ∷ []) (append_assoc a (pos (suc n) ∷ []) c)
runs-ended a (negsuc n ∷ c) e = runs-ended (a ++ negsuc n ∷ []) c (literals-parts (negsuc n) c e).1 ∙ ap (λ r. r ∷ []) (append_assoc a (negsuc n ∷ []) c)

-- one clause more is read back
clauses-push : (xs c : List ℤ) → xs ≡ numbers_of (clauses_in xs) → all_literals c ≡ true → clauses_in (xs ++ ended c) ≡ clauses_in xs ++ c ∷ []
clauses-push xs c e l =
    runs_append [] xs (ended c)
    ∙ ap (λ t. clauses_in xs ++ runs t (ended c)) (ap (rest []) e ∙ rest-numbers (clauses_in xs))
    ∙ ap (λ t. clauses_in xs ++ t) (runs-ended [] c l)

-- and the layout goes on with it
laid-push : (xs c : List ℤ) → xs ≡ numbers_of (clauses_in xs) → all_literals c ≡ true → xs ++ ended c ≡ numbers_of (clauses_in (xs ++ ended c))
laid-push xs c e l =
    ap (λ t. t ++ ended c) e ∙ flat_map_more ended [] (clauses_in xs) c ∙ ap numbers_of (sym (clauses-push xs c e l))

-- a clause takes one number at least
fewer-clauses : (cs : List (List ℤ)) → length cs ≤ length (numbers_of cs)
fewer-clauses [] = omega arith
fewer-clauses (c ∷ cs) = omega (arith, fewer-clauses cs, length-append (ended c) (numbers_of cs), length-append c (pos 0 ∷ []))

-- the clause and its 0 are written
pub clause_written : (b xs c : List ℤ) (at k : ℕ) → k ≡ length c → at + (length c + 1) ≤ length b → xs ≡ c → set (put_mid at k b xs) (at + length c) (pos 0) ≡ take at b ++ (ended c ++ drop (at + (length c + 1)) b)
clause_written b xs c at k n h e =
    let m : put_mid at k b xs ≡ paste b at c (length c) = put_mid-paste at k b xs c (length c) e (sym n) refl in
    let l : length (paste b at c (length c)) ≡ length b = length-paste b at c (length c) (omega arith) (omega arith) in
    let o : suc (at + length c) ≡ at + length c + 1 = omega arith in
    let q : at + length c + 1 ≡ at + (length c + 1) = omega arith in
    ap (λ t. set t (at + length c) (pos 0)) m
    ∙ set_split (paste b at c (length c)) (at + length c) (pos 0) (omega arith)
    ∙ ap (λ t. t ++ pos 0 ∷ drop (suc (at + length c)) (paste b at c (length c))) (take-paste b at c (length c) (omega arith) (omega arith) ∙ ap (λ t. take at b ++ t) (take_all (length c) c (omega arith)))
    ∙ ap (λ t. (take at b ++ c) ++ pos 0 ∷ drop t (paste b at c (length c))) o
    ∙ ap (λ t. (take at b ++ c) ++ pos 0 ∷ t) (sym (drop-drop 1 (at + length c) (paste b at c (length c))) ∙ ap (drop 1) (drop-paste b at c (length c) (omega arith) (omega arith)) ∙ drop-drop 1 (at + length c) b)
    ∙ append_assoc (take at b) c (pos 0 ∷ drop (at + length c + 1) b)
    ∙ ap (λ t. take at b ++ t) (sym (append_assoc c (pos 0 ∷ []) (drop (at + length c + 1) b)))
    ∙ ap (λ t. take at b ++ (ended c ++ drop t b)) q

-- the memory d, of which `at` numbers were used, is t afterwards, and `end` numbers are used: a clause joined
pub record Wrote (d t : List ℤ) (at end count : ℕ) (c : List ℤ) : Type 0 where
  pub held : clauses_in (take end t) ≡ clauses_in (take at d) ++ c ∷ []
  pub laid : take end t ≡ numbers_of (clauses_in (take end t))
  pub counted : count ≡ length (clauses_in (take end t))
  pub beyond : drop end t ≡ drop end d
  pub same_length : length t ≡ length d

module _ (d : List ℤ) (at count : ℕ) (w : at ≤ length d) (ld : take at d ≡ numbers_of (clauses_in (take at d))) (cn : count ≡ length (clauses_in (take at d))) where
  -- the clauses are fewer than the numbers
  pub count_low : count ≤ at
  count_low = omega (arith, fewer-clauses (clauses_in (take at d)), ap length ld, length-take-le at d w)

  pub wrote : (c t : List ℤ) → all_literals c ≡ true → at + (length c + 1) ≤ length d → t ≡ take at d ++ (ended c ++ drop (at + (length c + 1)) d) → Wrote d t at (at + (length c + 1)) (count + 1) c
  wrote c t a f e =
      let end = at + (length c + 1) in
      let front = take at d ++ ended c in
      let l : length front ≡ end = length-append (take at d) (ended c) ∙ omega (arith, length-take-le at d w, length_push c (pos 0)) in
      let x : t ≡ front ++ drop end d = e ∙ sym (append_assoc (take at d) (ended c) (drop end d)) in
      let u : take end t ≡ front = ap (take end) x ∙ take_at front (drop end d) end l in
      let h : clauses_in (take end t) ≡ clauses_in (take at d) ++ c ∷ [] = ap clauses_in u ∙ clauses-push (take at d) c ld a in
      record {
        held = h;
        laid = u ∙ laid-push (take at d) c ld a ∙ ap (λ r. numbers_of (clauses_in r)) (sym u);
        counted = ap (λ n. n + 1) cn ∙ sym (ap length h ∙ length_push (clauses_in (take at d)) c);
        beyond = ap (drop end) x ∙ drop_at front (drop end d) end l;
        same_length = ap length x ∙ length-append front (drop end d) ∙ omega (arith, l, length-drop end d);
      }
