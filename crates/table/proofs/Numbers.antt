-- Roles and their numbers, and notes of some role.
-- Assumes nothing.
use Rattle.std.proofs.Common.{◌≡◌, ℕ, zero, suc, ◌<◌, ◌≤◌, Bool, true, false, cond, ◌||◌, eqb, Some, None, Option, Ok, ok_or, sym, refl, ap, ◌∙◌, arith}
use Rattle.std.proofs.lemmas.Bool.{eqb-true, eqb-false}
use Rattle.encoding.specs.Ranges.{some}
use Rattle.table.specs.declared.faults.NoteFault.TheVariants.{RoleOutOfLimits}
use Rattle.table.specs.declared.roles.Role.{Role}
use Rattle.table.specs.declared.roles.Role.TheVariants.{Initial, Goal, StartNeeds, StartAdds, StartDeletes, EndNeeds, EndAdds, EndDeletes, Held}
use Rattle.table.specs.Roles.{number_of, role_of, same_role, some_role}

role-back : (r : Role) → role_of (number_of r) ≡ Some r
role-back Initial = refl
role-back Goal = refl
role-back StartNeeds = refl
role-back StartAdds = refl
role-back StartDeletes = refl
role-back EndNeeds = refl
role-back EndAdds = refl
role-back EndDeletes = refl
role-back Held = refl

valued : Option Role → Role → Role
valued (Some x) r = x
valued None r = r

pub same-role : (s r : Role) → same_role s r ≡ true → s ≡ r
unfolding valued
same-role s r h = ap (λ o. valued o r) (sym (role-back s) ∙ ap role_of (eqb-true (number_of s) (number_of r) h) ∙ role-back r)

-- a number that names a role is the role's number

first-role : (n : ℕ) (r : Role) (k : ℕ) (s : Role) (o : Option Role) → number_of s ≡ k → cond (eqb n k) (Some s) o ≡ Some r → (o ≡ Some r → number_of r ≡ n) → number_of r ≡ n
unfolding valued
first-role n r k s o u h later = go (eqb n k) refl h where
  go : (b : Bool) → eqb n k ≡ b → cond b (Some s) o ≡ Some r → number_of r ≡ n
  go true e w = sym (ap (λ x. number_of (valued x r)) w) ∙ u ∙ sym (eqb-true n k e)
  go false e w = later w

pub role-number : (n : ℕ) (r : Role) → role_of n ≡ Some r → number_of r ≡ n
role-number n r h =
    first-role n r 1 Initial _ refl h (λ h. first-role n r 2 Goal _ refl h (λ h. first-role n r 3 StartNeeds _ refl h
    (λ h. first-role n r 4 StartAdds _ refl h (λ h. first-role n r 5 StartDeletes _ refl h (λ h. first-role n r 6 EndNeeds _ refl h
    (λ h. first-role n r 7 EndAdds _ refl h (λ h. first-role n r 8 EndDeletes _ refl h (λ h. first-role n r 9 Held _ refl h
    (λ h. absurd (cc))))))))))

-- the role that try_from gives
pub named : (r : Role) (o : Option Role) → Ok r ≡ ok_or o RoleOutOfLimits → Some r ≡ o
named r o h = grind arith

pub number_small : (r : Role) → number_of r < 10
number_small Initial = omega arith
number_small Goal = omega arith
number_small StartNeeds = omega arith
number_small StartAdds = omega arith
number_small StartDeletes = omega arith
number_small EndNeeds = omega arith
number_small EndAdds = omega arith
number_small EndDeletes = omega arith
number_small Held = omega arith

-- tests that some number or some role passes

pub or_left : (a b : Bool) → a ≡ true → (a || b) ≡ true
or_left true b h = refl
or_left false b h = absurd (cc)

pub or_right : (a b : Bool) → b ≡ true → (a || b) ≡ true
or_right true b h = refl
or_right false b h = h

pub some_of : (n : ℕ) (f : ℕ → Bool) (i : ℕ) → 1 ≤ i → i ≤ n → f i ≡ true → some n f ≡ true
unfolding some
some_of zero f i l u h = absurd (omega arith)
some_of (suc n) f i l u h = go (eqb i (suc n)) refl (λ k. some_of n f i l k h) where
  go : (b : Bool) → eqb i (suc n) ≡ b → (i ≤ n → some n f ≡ true) → (some n f || f (suc n)) ≡ true
  go true e r = or_right (some n f) (f (suc n)) (ap f (sym (eqb-true i (suc n) e)) ∙ h)
  go false e r = let ne = eqb-false i (suc n) e in or_left (some n f) (f (suc n)) (r (omega arith))

pub some-role : (f : Role → Bool) (r : Role) → f r ≡ true → some_role f ≡ true
some-role f Initial h = or_left _ _ h
some-role f Goal h = or_right (f Initial) _ (or_left _ _ h)
some-role f StartNeeds h = or_right (f Initial) _ (or_right (f Goal) _ (or_left _ _ h))
some-role f StartAdds h = or_right (f Initial) _ (or_right (f Goal) _ (or_right (f StartNeeds) _ (or_left _ _ h)))
some-role f StartDeletes h = or_right (f Initial) _ (or_right (f Goal) _ (or_right (f StartNeeds) _ (or_right (f StartAdds) _ (or_left _ _ h))))
some-role f EndNeeds h = or_right (f Initial) _ (or_right (f Goal) _ (or_right (f StartNeeds) _ (or_right (f StartAdds) _ (or_right (f StartDeletes) _ (or_left _ _ h)))))
some-role f EndAdds h = or_right (f Initial) _ (or_right (f Goal) _ (or_right (f StartNeeds) _ (or_right (f StartAdds) _ (or_right (f StartDeletes) _ (or_right (f EndNeeds) _ (or_left _ _ h))))))
some-role f EndDeletes h = or_right (f Initial) _ (or_right (f Goal) _ (or_right (f StartNeeds) _ (or_right (f StartAdds) _ (or_right (f StartDeletes) _ (or_right (f EndNeeds) _ (or_right (f EndAdds) _ (or_left _ _ h)))))))
some-role f Held h = or_right (f Initial) _ (or_right (f Goal) _ (or_right (f StartNeeds) _ (or_right (f StartAdds) _ (or_right (f StartDeletes) _ (or_right (f EndNeeds) _ (or_right (f EndAdds) _ (or_right (f EndDeletes) _ h)))))))
