-- A table without notes.
-- Assumes nothing.
use Rattle.std.proofs.Common.{◌≡◌, ℕ, Bool, false, ◌&&◌, replicate, sym, refl, ap, subst}
use mathlib.Core.Path.{fun_ext}
use Rattle.encoding.specs.Ranges.{some}
use Rattle.table.specs.declared.notes.Notes.{Notes}
use Rattle.table.specs.declared.roles.Role.{Role}
use Rattle.table.specs.declared.roles.Role.TheVariants.{StartAdds, StartDeletes, EndAdds, EndDeletes, Held}
use Rattle.table.specs.Roles.{number_of}
use Rattle.table.specs.Memory.{noted, no_notes, noted_in}
use Rattle.table.specs.Entries.{implies, placed, some_note}
use Rattle.table.proofs.Lists.{all_same}
use Rattle.table.proofs.rows.Table.empty.Goals as goal

none : (n : Notes) → ((a p : ℕ) → noted n a p ≡ false) → (r : Role) (a p : ℕ) → noted_in (replicate 10 n) r a p ≡ false
none n h r a p = all_same (λ (m : Notes). noted m a p ≡ false) 10 n no_notes (h a p) refl (number_of r)

empty : (n : Notes) → ((a p : ℕ) → noted n a p ≡ false) → noted_in (replicate 10 n) ≡ (λ (r : Role) a p. false)
empty n h = fun_ext (λ (r : Role). fun_ext (λ a. fun_ext (λ p. none n h r a p)))

uncounted : false ≡ some_note (λ (r : Role) a p. false)
unfolding some_note some
uncounted = refl

pub invariant_of-result : goal.invariant_of-result
invariant_of-result c =
    let h = none c.none-none.result c.none-none.ensures in
    record {
      sizes = c.requires;
      within = λ r a p. ap (λ x. implies x (placed c.args.facts c.args.actions r a p)) (h r a p);
      apart = (
        (λ a p. ap (λ x. x && noted_in (replicate 10 c.none-none.result) StartDeletes a p) (h StartAdds a p)),
        (λ a p. ap (λ x. x && noted_in (replicate 10 c.none-none.result) EndDeletes a p) (h EndAdds a p)),
        (λ a p. ap (λ x. x && noted_in (replicate 10 c.none-none.result) Held a p) (h StartDeletes a p)),
      );
      counted = subst (λ (N : Role → ℕ → ℕ → Bool). false ≡ some_note N) (sym (empty c.none-none.result c.none-none.ensures)) uncounted;
    }

pub returns : goal.returns
returns c =
    ap (λ (f : Role → ℕ → ℕ → Bool). record { facts = c.args.facts; actions = c.args.actions; noted = f }) (empty c.none-none.result c.none-none.ensures)
