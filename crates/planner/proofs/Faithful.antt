-- After any history a new draft's table is the one that its granted calls name.
-- Assumes nothing.
use Rattle.std.proofs.Common.{◌≡◌, ℕ, Bool, true, false, cond, ◌&&◌, ◌||◌, eqb, List, [], ◌∷◌, is_ok, Some, None, Ok, Err, Option, Result, sym, refl, ap, ◌∙◌}
use Rattle.std.proofs.Math.Bool.{or-false}
use mathlib.Core.Path.{fun_ext}
use Rattle.table.specs.declared.roles.Role.{Role}
use Rattle.table.specs.Roles.{number_of, role_of}
use Rattle.table.specs.Entries.{Entries, blank}
use Rattle.table.specs.Calls as calls
use Rattle.table.specs.Calls.{size_answer, note_answer, answer_by, written_by, with_size, with_note}
use Rattle.table.proofs.Numbers.{role-number}
use Rattle.planner.specs.Histories.{DraftCall, size, note, grants, after, replayed, kept_if, granted, last_facts, last_actions, is_note, noted, named, Faithful}

-- the table with a granted call's change
unfoldable with_call : Entries → DraftCall → Entries
with_call E (size f n) = with_size E f n
with_call E (note r a p) = record { facts = E.facts; actions = E.actions; noted = λ s b q. is_note (note r a p) s b q || E.noted s b q }

-- calls on top of a table
unfoldable over : Entries → List DraftCall → Entries
over E cs = record {
  facts = last_facts E.facts cs;
  actions = last_actions E.actions cs;
  noted = λ s b q. E.noted s b q || noted cs s b q;
}

after-granted : {F : Type 0} (x : Result (Unit {0}) F) (E U V : Entries) → (is_ok x ≡ true → U ≡ V) → calls.granted x E U ≡ cond (is_ok x) V E
after-granted (Ok u) E U V h = h refl
after-granted (Err e) E U V h = refl

-- a role's number names the role
note-of : (o : Option Role) (r a p : ℕ) (E : Entries) → o ≡ role_of r → is_ok (answer_by o E a p) ≡ true → written_by o E a p ≡ with_call E (note r a p)
unfolding with_call
note-of None r a p E e h = cc
note-of (Some role) r a p E e h =
    ap (λ k. record { facts = E.facts; actions = E.actions; noted = λ (s : Role) b q. (eqb (number_of s) k && (eqb b a && eqb q p)) || E.noted s b q }) (role-number r role (sym e))

after-by : (E : Entries) (c : DraftCall) → after E c ≡ cond (grants E c) (with_call E c) E
unfolding with_call
after-by E (size f n) = after-granted (size_answer E f n) E (with_size E f n) (with_size E f n) (λ h. refl)
after-by E (note r a p) = after-granted (note_answer E r a p) E (written_by (role_of r) E a p) _ (λ h. note-of (role_of r) r a p E refl h)

turned : (x y z : Bool) → ((x || y) || z) ≡ (y || (x || z))
turned true true z = refl
turned true false z = refl
turned false true z = refl
turned false false z = refl

over_none : (E : Entries) → E ≡ over E []
unfolding over last_facts last_actions noted
over_none E =
    ap (λ (f : Role → ℕ → ℕ → Bool). record { facts = E.facts; actions = E.actions; noted = f })
    (fun_ext (λ (s : Role). fun_ext (λ b. fun_ext (λ q. sym (or-false (E.noted s b q))))))

over-more : (E : Entries) (c : DraftCall) (cs : List DraftCall) → over (with_call E c) cs ≡ over E (c ∷ cs)
unfolding over with_call last_facts last_actions noted
over-more E (size f n) cs = refl
over-more E (note r a p) cs =
    ap (λ (f : Role → ℕ → ℕ → Bool). record { facts = last_facts E.facts cs; actions = last_actions E.actions cs; noted = f })
    (fun_ext (λ (s : Role). fun_ext (λ b. fun_ext (λ q. turned (is_note (note r a p) s b q) (E.noted s b q) (noted cs s b q)))))

replayed-over : (E : Entries) (cs : List DraftCall) → replayed E cs ≡ over E (granted E cs)
unfolding replayed granted
replayed-over E [] = over_none E
replayed-over E (c ∷ cs) = replayed-over (after E c) cs ∙ go (grants E c) (after-by E c) where
  go : (g : Bool) → after E c ≡ cond g (with_call E c) E → over (after E c) (granted (after E c) cs) ≡ over E (kept_if g c (granted (after E c) cs))
  go true e = ap (λ (U : Entries). over U (granted (after E c) cs)) e ∙ over-more E c (granted (after E c) cs)
  go false e = ap (λ (U : Entries). over U (granted (after E c) cs)) e

pub faithful : Faithful
unfolding over named
faithful cs = replayed-over blank cs
