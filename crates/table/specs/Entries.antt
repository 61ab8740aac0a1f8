-- A table as it is written down: its sizes and a set of notes. What every table keeps, and what size and note answer and do.
-- Assumes nothing.
use Rattle.std.specs.Prelude.{◌≡◌, ℕ, ◌≤◌, Bool, true, false, cond, ◌&&◌, ◌||◌, ◌==◌, nat_le}
use Rattle.encoding.specs.Limits.{fact_limit, action_limit}
use Rattle.encoding.specs.Ranges.{some}
use Rattle.table.specs.declared.roles.Role.{Role}
use Rattle.table.specs.declared.roles.Role.TheVariants.{StartAdds, StartDeletes, EndAdds, EndDeletes, Held}
use Rattle.table.specs.Roles.{actionless, some_role}

pub record Entries : Type 0 where
  pub facts : ℕ
  pub actions : ℕ
  -- of a role, an action and a fact
  pub noted : Role → ℕ → ℕ → Bool

abbrev pub unnoted : ℕ → ℕ → Entries
unnoted f n = record { facts = f; actions = n; noted = λ r a p. false }

-- Every table begins with one fact, one action and no notes
abbrev pub blank : Entries
blank = unnoted 1 1

abbrev pub from : ℕ → ℕ → ℕ → Bool
from low high n = nat_le low n && nat_le n high

-- The sizes that there are: 1 to 32 facts, 1 to 16 actions
abbrev pub sized : ℕ → ℕ → Bool
sized f n = from 1 fact_limit f && from 1 action_limit n

-- Initial facts and goals take action 0, the other roles one of the table's actions
abbrev pub taken : ℕ → Role → ℕ → Bool
taken n r a = cond (actionless r) (a == 0) (from 1 n a)

-- A note in the limits: an action that its role takes, and one of the table's facts
abbrev pub placed : ℕ → ℕ → Role → ℕ → ℕ → Bool
placed f n r a p = taken n r a && from 1 f p

-- whether there is any note
unfoldable pub some_note : (Role → ℕ → ℕ → Bool) → Bool
some_note noted = some_role (λ r. some fact_limit (λ p. noted r 0 p || some action_limit (λ a. noted r a p)))

abbrev pub implies : Bool → Bool → Bool
implies x y = cond x y true

-- What every table keeps

abbrev pub Sizes : ℕ → ℕ → Type 0
Sizes f n = (1 ≤ f) × (f ≤ fact_limit) × (1 ≤ n) × (n ≤ action_limit)

-- every note is in the limits
abbrev pub Within : ℕ → ℕ → (Role → ℕ → ℕ → Bool) → Type 0
Within f n noted = (r : Role) (a p : ℕ) → implies (noted r a p) (placed f n r a p) ≡ true

-- no fact is noted in both roles for one action
abbrev pub Never : (Role → ℕ → ℕ → Bool) → Role → Role → Type 0
Never noted r s = (a p : ℕ) → (noted r a p && noted s a p) ≡ false

-- There is no clash: no event adds and deletes a fact, and no start deletes a held fact of its own action
abbrev pub Apart : (Role → ℕ → ℕ → Bool) → Type 0
Apart noted = Never noted StartAdds StartDeletes × Never noted EndAdds EndDeletes × Never noted StartDeletes Held
