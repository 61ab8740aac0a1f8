-- The tags, the order in which they may follow one another, and what the reader of a tag does byte by byte.
-- Assumes nothing.
use Rattle.std.specs.Prelude.{◌≡◌, ℕ, Bool, true, false, cond, ◌&&◌, List, length, Some, None, Ok, Err, codes, Option, Result, ◌==◌, nat_le, nat_lt, slice_index}
use Rattle.table.specs.declared.roles.Role.{Role}
use Rattle.table.specs.declared.roles.Role.TheVariants.{Initial, Goal, StartNeeds, StartAdds, StartDeletes, EndNeeds, EndAdds, EndDeletes, Held}
use Rattle.table.specs.Roles.{number_of}
use Rattle.text.specs.declared.tags.Tag.{Tag}
use Rattle.text.specs.declared.tags.Tag.TheVariants.{Sizes, Note, Close}

abbrev pub tag_text : Tag → List ℕ
tag_text Sizes = codes "SZ"
tag_text (Note Initial) = codes "IN"
tag_text (Note Goal) = codes "GO"
tag_text (Note StartNeeds) = codes "SN"
tag_text (Note StartAdds) = codes "SA"
tag_text (Note StartDeletes) = codes "SD"
tag_text (Note EndNeeds) = codes "EN"
tag_text (Note EndAdds) = codes "EA"
tag_text (Note EndDeletes) = codes "ED"
tag_text (Note Held) = codes "HD"
tag_text Close = codes "ZZ"

-- Which tags may stand after a line of rank f. The rank of a note's line is its role's number; 0 is the text's beginning, where only
-- the sizes may stand, and the line of the sizes has rank 1, since any note may follow it.
abbrev pub allows : ℕ → Tag → Bool
allows f Sizes = f == 0
allows f (Note r) = nat_le 1 f && nat_le f (number_of r)
allows f Close = nat_le 1 f

-- the rank of the last line, by its role: the sizes count as the first role, and at the beginning there is none
abbrev pub rank_in : Option Role → ℕ
rank_in None = 0
rank_in (Some r) = number_of r

-- s is a tag that may stand after a line of rank f
abbrev pub TagAt : ℕ → Tag → List ℕ → Type 0
TagAt f t s = (allows f t ≡ true) × (s ≡ tag_text t)

-- The reader's steps

abbrev pub tag_of : ℕ → ℕ → Option Tag
tag_of a b =
    cond (a == 83 && b == 90) (Some Sizes)
    (cond (a == 73 && b == 78) (Some (Note Initial))
    (cond (a == 71 && b == 79) (Some (Note Goal))
    (cond (a == 83 && b == 78) (Some (Note StartNeeds))
    (cond (a == 83 && b == 65) (Some (Note StartAdds))
    (cond (a == 83 && b == 68) (Some (Note StartDeletes))
    (cond (a == 69 && b == 78) (Some (Note EndNeeds))
    (cond (a == 69 && b == 65) (Some (Note EndAdds))
    (cond (a == 69 && b == 68) (Some (Note EndDeletes))
    (cond (a == 72 && b == 68) (Some (Note Held))
    (cond (a == 90 && b == 90) (Some Close) None))))))))))

-- whether a tag that may stand after rank f begins with a
abbrev pub opens : ℕ → ℕ → Bool
opens a f =
    cond (a == 83) (nat_le f 5)
    (cond (a == 73) (f == 1)
    (cond (a == 71) (nat_le 1 f && nat_le f 2)
    (cond (a == 69) (nat_le 1 f && nat_le f 8)
    (cond (a == 72) (nat_le 1 f && nat_le f 9)
    (cond (a == 90) (nat_le 1 f) false)))))

abbrev pub if_allowed : ℕ → Option Tag → Result Tag ℕ
if_allowed f None = Err 1
if_allowed f (Some t) = cond (allows f t) (Ok t) (Err 1)

abbrev pub tag_at : ℕ → List ℕ → Result Tag ℕ
tag_at f s =
    cond (nat_lt (length s) 1) (Err 0)
    (cond (opens (slice_index s 0) f)
    (cond (nat_lt (length s) 2) (Err 1) (if_allowed f (tag_of (slice_index s 0) (slice_index s 1))))
    (Err 0))
