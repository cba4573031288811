-- What the grant that allows leaves to the client.
use Rattle.std.specs.Prelude.{◌≡◌, ℕ, ◌+◌, Bool, true, Option, Some, None, is_none, List, position, slice_get, if◌then◌else◌}
use Rattle.capspec.specs.declared.grant.Grant.{Grant}
use Rattle.capgrant.specs.declared.access.Attr.{Attr}
use Rattle.capgrant.specs.Question.{Question}
use Rattle.capgrant.specs.Failing.{is_some_and}
use Rattle.capgrant.specs.Verdict.{allows}

-- the grant names no user
abbrev pub is_for_all : Grant → Bool
is_for_all g = is_none g.uid

-- the number of the grant at the place, from 1, if it names no user
abbrev pub left_by : List Grant → Option ℕ → Option ℕ
left_by grants None = None
left_by grants (Some place) = if is_some_and is_for_all (slice_get grants place) then Some (place + 1) else None

-- the number of the first grant that allows, if it names no user: it leaves the owner, the group and the mode to the client
abbrev pub left_to_client : Question → List Grant → Option ℕ
left_to_client q grants = left_by grants (position (allows q) grants)

-- The grant allows what is asked of an inode of any owner, group and mode.
abbrev pub LooksAtNoInode : Question → Grant → Type 0
LooksAtNoInode q g = (attr : Attr) → allows (record q { attr = attr }) g ≡ true
