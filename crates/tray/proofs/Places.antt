-- Places of a list: `first_place` computes what `FirstPlace` says, and finds whatever is equal at one place.
use Rattle.std.proofs.Common.{◌≡◌, ℕ, zero, suc, ◌-◌, ◌<◌, ◌≤◌, Bool, false, not, List, length, get_or, Some, None, Option, sym, refl, ap, ◌∙◌, ⊎_elim, arith}
use Rattle.std.specs.Cmp.{IsEquivalence}
use Rattle.std.specs.List.{position, position_or_len}
use Rattle.std.specs.Option.{option_map}
use Rattle.std.proofs.lemmas.Option.{get_or_from_slice_get, slice_get_within, slice_get_cases, cond_some, none-some}
use Rattle.std.proofs.lemmas.List.Quantifiers.{position-Some}
use Rattle.std.proofs.lemmas.List.Sums.{prefix_len_passes}
use Rattle.std.proofs.lemmas.Bool.Decides.{nat_tests}
use Rattle.tray.specs.Places.{item_at, first_place, FirstPlace, Found}

module _ {X : Type 0} (f : X → Bool) (xs : List X) where
  -- an element at a place stands at the index before it
  reads : (k : ℕ) (y : X) → item_at xs k ≡ Some y → (k - 1 < length xs) × (1 ≤ k) × (get_or xs (k - 1) y ≡ y)
  reads zero y at = absurd (none-some y at)
  reads (suc k) y at =
      let back : suc k - 1 ≡ k = omega arith in
      (rw back (slice_get_within xs k y at), omega arith, rw back (get_or_from_slice_get xs k y y at))

  -- no element passes where `position` finds none
  none : position f xs ≡ None → (k : ℕ) (y : X) → item_at xs k ≡ Some y → f y ≡ false
  none e k y at =
      let r = reads k y at in
      grind (arith, nat_tests, prefix_len_passes (λ x. not (f x)) xs (k - 1) y)

  some : (i : ℕ) → position f xs ≡ Some i → FirstPlace f xs (Some (suc i))
  some i e =
      let within = cond_some _ (position_or_len f xs) i e in
      let low : i < length xs = grind (arith, nat_tests) in
      ⊎_elim
      (λ h. let p = position-Some f xs i h.0 e in ((h.0, h.2, grind arith), λ k y l at. let r = reads k y at in grind (arith, (position-Some f xs i y e).2)))
      (λ h. absurd (omega arith))
      (slice_get_cases xs i).1

  first-is : FirstPlace f xs (first_place f xs)
  first-is = go (position f xs) refl
    where
      go : (r : Option ℕ) → position f xs ≡ r → FirstPlace f xs (option_map suc r)
      go None e = none e
      go (Some i) e = some i e

-- What equals x is first at the same place: the tests for the two are one.
pub found : {X : Type 0} (equal : X → X → Bool) → IsEquivalence equal → (x : X) (xs : List X) (r : Option ℕ) → r ≡ first_place (λ y. equal y x) xs → Found equal x xs r
found equal laws x xs r place = record {
  place = place;
  first = rw place (first-is (λ y. equal y x) xs);
  alike = λ z e. place ∙ ap (λ t. first_place t xs) (λ i y. (laws.symm y x ∙ sym (laws.congr z x y e) ∙ laws.symm z y) i);
}
