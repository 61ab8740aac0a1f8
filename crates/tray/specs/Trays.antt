-- A tray as its user sees it: the list that it holds, the whole memory that it was lent, and who lent it.
-- Assumes nothing.
use Rattle.std.specs.Prelude.{◌≡◌, ℕ, ◌+◌, ◌<◌, List, [], ◌∷◌, ◌++◌, length, take, Ok, Err, Result, slice_set}
use Rattle.std.specs.Borrow.{GName}
use Rattle.tray.specs.declared.Tray.{Tray}
use Rattle.tray.specs.declared.fault.TrayFault.{TrayFault}
use Rattle.tray.specs.declared.fault.TrayFault.TheVariants.{Full}

-- the elements, first to last
abbrev pub items : {X : Type 0} → Tray X → List X
items t = take t.count t.slots.now

-- every slot, used or not
abbrev pub memory : {X : Type 0} → Tray X → List X
memory t = t.slots.now

-- how many elements there is memory for
abbrev pub size_of : {X : Type 0} → Tray X → ℕ
size_of t = length t.slots.now

-- whose memory it is: when the tray is let go, that memory is as the tray's was last
abbrev pub lender : {X : Type 0} → Tray X → GName
lender t = t.slots.ghost_name

-- an element was appended: one slot was written, the one after the last element
pub record Appended {X : Type 0} (before : Tray X) (x : X) (after : Tray X) : Type 0 where
  pub room : length (items before) < size_of before
  pub joined : items after ≡ items before ++ x ∷ []
  pub written : memory after ≡ slice_set (memory before) (length (items before)) x
  pub size : size_of after ≡ size_of before
  pub lent : lender after ≡ lender before

-- there was no room, and the tray is as it was
pub record Refused {X : Type 0} (before : Tray X) (fault : TrayFault) (after : Tray X) : Type 0 where
  pub full : length (items before) ≡ size_of before
  pub says : fault ≡ Full (size_of before + 1)
  pub same : after ≡ before

abbrev pub Append : {X : Type 0} → Tray X → X → Tray X → Result (Unit {0}) TrayFault → Type 0
Append before x after (Ok _) = Appended before x after
Append before x after (Err fault) = Refused before fault after
