-- What clients want of an inode, so far as it counts.
use Rattle.std.specs.Prelude.{ℕ, Bool, not, List, [], ◌∷◌, Option, Some, None, filter, if◌then◌else◌}
use Rattle.std.specs.Prelude.{map as each}
use Rattle.std.specs.List.{fold}
use Rattle.capbits.specs.declared.cap.Cap.TheVariants.{P}
use Rattle.capbits.specs.declared.ids.ClientId.{ClientId}
use Rattle.capbits.specs.declared.ids.Ino.{Ino}
use Rattle.capbits.specs.Caps.{Caps}
use Rattle.capbits.specs.Sets.{caps_in, is_empty, meet, minus, no_caps, union}
use Rattle.sessiontab.specs.Table.{SessionTable}
use Rattle.sessiontab.specs.Calls.{status_of}
use Rattle.sessiontab.specs.Tests.{is_open}
use Rattle.inotree.specs.Tree.{Nodes}
use Rattle.captable.specs.declared.entry.EntryRow.{EntryRow}
use Rattle.captable.specs.Table.{Table}
use Rattle.captable.specs.Calls.{entries_on}
use Rattle.lockmachine.specs.declared.wants.Wants.{Wants}
use Rattle.lockmachine.specs.declared.wants.Tally.{Tally}
use Rattle.lockmachine.specs.declared.wants.Wanting.{Wanting}
use Rattle.lockmachine.specs.declared.wants.Wanting.TheVariants.{Nobody, One, Several}
use Rattle.lockmachine.specs.Policy.{permitted}

-- what the entry's client wants of these, which it is permitted, if its session is open
abbrev pub want_of_permitted : SessionTable → Caps → EntryRow → Caps
want_of_permitted sessions caps row = if is_open (status_of sessions row.holder.client.0) then meet row.entry.want caps else no_caps

-- what the entry's client wants and is permitted, if its session is open
abbrev pub effective_want : List ℕ → Nodes → SessionTable → EntryRow → Caps
effective_want fs tree sessions row = want_of_permitted sessions (permitted fs tree sessions row.holder) row

-- a client, and what it effectively wants
abbrev pub Want : Type 0
Want = ClientId × Caps

abbrev pub want_of : List ℕ → Nodes → SessionTable → EntryRow → Want
want_of fs tree sessions row = (row.holder.client, effective_want fs tree sessions row)

-- what the clients with an entry on an inode effectively want of it
abbrev pub wants_on : List ℕ → Nodes → SessionTable → Table → Ino → List Want
wants_on fs tree sessions table ino = each (want_of fs tree sessions) (entries_on table ino)

-- what somebody wants, of these
abbrev pub union_of : List Want → Caps
union_of wants = fold (λ caps want. union caps want.1) no_caps wants

-- more than the pin
abbrev pub is_more : Caps → Bool
is_more caps = not (is_empty (minus caps (caps_in (P ∷ []))))

-- the element of a list that has no other
abbrev pub only : {A : Type 0} → List A → Option A
only [] = None
only (x ∷ []) = Some x
only (x ∷ y ∷ rest) = None

-- the one that wants more than the pin, where no other does
abbrev pub loner_of : List Want → Option Want
loner_of wants = only (filter (λ want. is_more want.1) wants)

-- what is wanted in all, of these
abbrev pub in_all : List Want → Wants
in_all wants = record { wanted = union_of wants; loner = loner_of wants }

-- the loner, where these want more than the pin and those of a list too
abbrev pub loner_with : Wanting → List Want → Option Want
loner_with Nobody rest = only rest
loner_with (One client want) rest = only ((client, want) ∷ rest)
loner_with Several rest = None

-- what is wanted in all, where these were counted and those of a list are wanted too
abbrev pub in_all_with : Tally → List Want → Wants
in_all_with tally rest = record { wanted = fold (λ caps want. union caps want.1) tally.wanted rest; loner = loner_with tally.wanting (filter (λ want. is_more want.1) rest) }
