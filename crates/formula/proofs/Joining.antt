-- How listings grow: nothing, one part more, one more of a range.
-- Assumes nothing.
use Rattle.std.proofs.Common.{◌≡◌, ℕ, ◌+◌, ◌-◌, ◌<◌, ◌≤◌, List, [], ◌∷◌, ◌++◌, map, length, get_or, take, sym, ap, ◌∙◌, subst, append_assoc, append-nil, arith, length-append}
use Rattle.std.proofs.lemmas.List.{map_more, take_all}
use Rattle.encoding.specs.Clauses.{Literal}
use Rattle.encoding.specs.Ranges.{each}
use Rattle.encoding.proofs.Ranges.{each_more}
use Rattle.formula.specs.declared.clauses.Clause.{Clause}
use Rattle.formula.specs.declared.listing.Listing.{Listing}
use Rattle.formula.specs.Listings.{Joined, listed, lits}

module _ {N : ℕ} where
  pub joined-none : (s : Listing N) → Joined s s []
  joined-none s h = record { more = omega arith; joined = sym (append-nil (listed s)) }

  pub joined-more : (s t u : Listing N) (cs ds : List (List (Literal ℕ))) → Joined s t cs → Joined t u ds → Joined s u (cs ++ ds)
  joined-more s t u cs ds a b h =
      let l : length (cs ++ ds) ≡ length cs + length ds = length-append cs ds in
      let p = a (omega arith) in
      let m = p.more in
      let q = b (omega arith) in
      record { more = q.more ∙ omega arith; joined = q.joined ∙ ap (λ x. x ++ ds) p.joined ∙ append_assoc (listed s) cs ds }

  -- one more of a range
  pub joined-each : (s t u : Listing N) (i : ℕ) (f : ℕ → List (List (Literal ℕ))) → Joined s t (each i f) → Joined t u (f (i + 1)) → Joined s u (each (i + 1) f)
  joined-each s t u i f a b = subst (Joined s u) (sym (each_more i f)) (joined-more s t u (each i f) (f (i + 1)) a b)

  -- one more of the clauses in a row
  pub joined-row : (s t u : Listing N) (cs : List Clause) (i : ℕ) (d : Clause) → i < length cs → Joined s t (map lits (take i cs)) → Joined t u (lits (get_or cs i d) ∷ []) → Joined s u (map lits (take (i + 1) cs))
  joined-row s t u cs i d l a b = subst (Joined s u) (sym (map_more lits cs i d l)) (joined-more s t u (map lits (take i cs)) (lits (get_or cs i d) ∷ []) a b)

  -- and all of them
  pub joined-all : (s t : Listing N) (cs : List Clause) (i : ℕ) → length cs ≤ i → Joined s t (map lits (take i cs)) → Joined s t (map lits cs)
  joined-all s t cs i l a = subst (λ xs. Joined s t (map lits xs)) (take_all i cs l) a

  -- one more of a range, by what it is equal to: k is how far it then goes
  pub joined-next : (s t u : Listing N) (i k : ℕ) (f : ℕ → List (List (Literal ℕ))) (g : List (List (Literal ℕ))) → 1 ≤ i → k ≡ i → Joined s t (each (i - 1) f) → Joined t u g → g ≡ f i → Joined s u (each k f)
  joined-next s t u i k f g l h a b e =
      let m : i - 1 + 1 ≡ i = omega arith in
      subst (λ j. Joined s u (each j f)) (m ∙ sym h) (joined-each s t u (i - 1) f a (subst (Joined t u) (e ∙ ap f (sym m)) b))

  -- and the last of it
  pub joined-last : (s t u : Listing N) (i n : ℕ) (f : ℕ → List (List (Literal ℕ))) (g cs : List (List (Literal ℕ))) → 1 ≤ i → n ≡ i → Joined s t (each (i - 1) f) → Joined t u g → g ≡ f i → cs ≡ each n f → Joined s u cs
  joined-last s t u i n f g cs l h a b e d = subst (Joined s u) (sym d) (joined-next s t u i n f g l h a b e)

  -- two parts, by what they are together
  pub joined-two : (s t u : Listing N) (cs ds es : List (List (Literal ℕ))) → Joined s t cs → Joined t u ds → cs ++ ds ≡ es → Joined s u es
  joined-two s t u cs ds es a b e = subst (Joined s u) e (joined-more s t u cs ds a b)

  -- what joined an empty listing is all of it
  pub filled : (s t : Listing N) (cs : List (List (Literal ℕ))) → s.count ≡ 0 → length cs ≤ N → Joined s t cs → listed t ≡ cs
  filled s t cs e h j = (j (omega arith)).joined ∙ ap (λ n. map lits (take n s.slots) ++ cs) e
