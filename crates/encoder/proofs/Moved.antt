-- Clauses of a template with a number added to each variable, and the signed numbers that they are put as.
-- Assumes nothing.
use Rattle.std.proofs.Common.{◌≡◌, ℕ, zero, suc, ◌+◌, ◌<◌, ◌≤◌, true, List, [], ◌∷◌, ◌++◌, map, length, get_or, take, sym, ap, ◌∙◌, subst, arith}
use lib.ListN.{length-map}
use Rattle.std.specs.List.{AllByRecursion}
use Rattle.std.proofs.ByRecursion.{All-get_or}
use Rattle.std.proofs.lemmas.List.{get_or-map, map-append, map_more, take_all}
use Rattle.encoding.specs.Clauses.{Literal, is, isnt, rename, signed}
use Rattle.store.specs.Clauses.{is_literal}
use Rattle.store.proofs.Meaning.{literal-neg, literal-pos}
use Rattle.formula.specs.declared.clauses.Clause.{Clause}
use Rattle.formula.specs.declared.clauses.Clause.TheVariants.{Three}
use Rattle.formula.specs.declared.clauses.Literal.{Literal as Written}
use Rattle.formula.specs.Listings.{lit, lits}
use Rattle.formula.specs.Listings.{shifted}
use Rattle.formula.specs.Listings.{InLimits}
use Rattle.encoder.specs.Puts.{moved, signs}

pub literal-lawful : (l : Literal ℕ) → InLimits l → is_literal (signed l) ≡ true
literal-lawful (is v) h = literal-pos v (omega arith) (omega arith)
literal-lawful (isnt zero) h = absurd (omega arith)
literal-lawful (isnt (suc v)) h = literal-neg v (omega arith)

-- the three literals of a clause
pub three-limits : (k : ℕ) (x : Clause) (a b c : Written) → x ≡ Three a b c → AllByRecursion InLimits (moved k x) → InLimits (rename (λ v. v + k) (lit a)) × InLimits (rename (λ v. v + k) (lit b)) × InLimits (rename (λ v. v + k) (lit c))
three-limits k x a b c e h = let p = subst (λ y. AllByRecursion InLimits (moved k y)) e h in (p.0, p.1.0, p.1.1.0)

-- a clause of a list whose literals are all within the limits
pub at_moved : (k : ℕ) (cs : List Clause) (i : ℕ) (d : Clause) → i < length cs → AllByRecursion (AllByRecursion InLimits) (shifted k (map lits cs)) → AllByRecursion InLimits (moved k (get_or cs i d))
at_moved k cs i d l h =
    let m : i < length (map lits cs) = rw length-map l in
    let n : i < length (shifted k (map lits cs)) = rw length-map m in
    subst (AllByRecursion InLimits) (get_or-map (map (rename (λ v. v + k))) (map lits cs) i [] [] m ∙ ap (map (rename (λ v. v + k))) (get_or-map lits cs i d [] l))
    (All-get_or (AllByRecursion InLimits) (shifted k (map lits cs)) i [] n h)

-- one clause more
pub signs-append : (cs ds : List (List (Literal ℕ))) → signs (cs ++ ds) ≡ signs cs ++ signs ds
signs-append cs ds = map-append (map signed) cs ds

pub shifted-append : (k : ℕ) (cs ds : List (List (Literal ℕ))) → shifted k (cs ++ ds) ≡ shifted k cs ++ shifted k ds
shifted-append k cs ds = map-append (map (rename (λ v. v + k))) cs ds

pub signs-more : (k : ℕ) (cs : List Clause) (i : ℕ) (d : Clause) → i < length cs → signs (shifted k (map lits (take i cs))) ++ map signed (moved k (get_or cs i d)) ∷ [] ≡ signs (shifted k (map lits (take (i + 1) cs)))
signs-more k cs i d l =
    sym (ap (λ xs. signs (shifted k xs)) (map_more lits cs i d l)
    ∙ ap signs (shifted-append k (map lits (take i cs)) (lits (get_or cs i d) ∷ []))
    ∙ signs-append (shifted k (map lits (take i cs))) (moved k (get_or cs i d) ∷ []))

-- and all of them
pub signs-all : (k : ℕ) (cs : List Clause) (i : ℕ) → length cs ≤ i → signs (shifted k (map lits (take i cs))) ≡ signs (shifted k (map lits cs))
signs-all k cs i l = ap (λ xs. signs (shifted k (map lits xs))) (take_all i cs l)
