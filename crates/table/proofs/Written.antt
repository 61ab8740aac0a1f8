-- The rows of a table with one note more.
-- Assumes nothing.
use Rattle.std.proofs.Common.{◌≡◌, ℕ, ◌<◌, Bool, true, ◌&&◌, ◌||◌, eqb, ltb, List, length, get_or, set, Ok, sym, ap, ◌∙◌, subst, ap₂, arith}
use mathlib.Core.Path.{fun_ext}
use Rattle.std.proofs.lemmas.Bool.{lt-ltb}
use Rattle.table.specs.declared.notes.Notes.{Notes}
use Rattle.table.specs.declared.roles.Role.{Role}
use Rattle.table.specs.Roles.{number_of}
use Rattle.table.specs.Memory.{noted, no_notes, noted_in}
use Rattle.table.specs.Entries.{Entries, some_note, Sizes, Within, Apart}
use Rattle.table.specs.Calls.{role_answer, with_note}
use Rattle.table.proofs.Lists.{set_at}
use Rattle.std.proofs.Math.Bool.{and-true}
use Rattle.table.proofs.Numbers.{number_small}
use Rattle.table.proofs.Keeps.{more, Fit, fit, in-places, within_more, apart_more, counted-more}

module _ (f n : ℕ) (rows : List Notes) (r : Role) (k a p : ℕ) (new : Notes) (place : k ≡ number_of r) (sizes : Sizes f n) where
  abbrev entries : Entries
  entries = record { facts = f; actions = n; noted = noted_in rows }

  -- a note that is granted, and what adding it to the notes of its role ensures
  module _ (granted : Ok tt ≡ role_answer entries r a p) (long : length rows ≡ 10)
      (adds : (b q : ℕ) → noted new b q ≡ ((eqb b a && (ltb a 17 && (eqb q p && ltb p 33))) || noted (get_or rows k no_notes) b q)) where
    fits : Fit entries r a p
    fits = fit entries r a p (sym granted)

    added : (b q : ℕ) → noted new b q ≡ ((eqb b a && eqb q p) || noted (get_or rows k no_notes) b q)
    added b q =
        let w = in-places f n r a p sizes fits.inside in
        let x : ltb a 17 ≡ true = lt-ltb a 17 w.0 in let y : ltb p 33 ≡ true = lt-ltb p 33 w.1 in
        adds b q ∙ ap₂ (λ s t. (eqb b a && (s && (eqb q p && t))) || noted (get_or rows k no_notes) b q) x y
        ∙ ap (λ t. (eqb b a && t) || noted (get_or rows k no_notes) b q) (and-true (eqb q p))

    inside : k < length rows
    inside = let small = number_small r in omega arith

    written : noted_in (set rows k new) ≡ more (noted_in rows) r a p
    written =
        fun_ext (λ (s : Role). fun_ext (λ b. fun_ext (λ q.
        set_at (λ (m : Notes). noted m b q) rows k (number_of s) new no_notes (eqb b a && eqb q p) inside (added b q)
        ∙ ap (λ i. (eqb (number_of s) i && (eqb b a && eqb q p)) || noted_in rows s b q) place)))

    pub with-note : ◌≡◌ {A = Entries} (record { facts = f; actions = n; noted = noted_in (set rows k new) }) (with_note entries r a p)
    with-note = ap (λ (g : Role → ℕ → ℕ → Bool). record { facts = f; actions = n; noted = g }) written

    pub keeps : Within f n (noted_in rows) → Apart (noted_in rows)
        → Within f n (noted_in (set rows k new)) × Apart (noted_in (set rows k new)) × (true ≡ some_note (noted_in (set rows k new)))
    keeps w apart =
        subst (λ (N : Role → ℕ → ℕ → Bool). Within f n N × Apart N × (true ≡ some_note N)) (sym written) (
          within_more f n (noted_in rows) r a p fits.inside w,
          apart_more entries r a p fits.clear apart,
          counted-more f n (noted_in rows) r a p sizes fits.inside,
        )
