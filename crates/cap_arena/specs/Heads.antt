-- The ends of many lists, each under a number.
use Rattle.std.specs.Prelude.{None, Option, Some, if◌then◌else◌, is_some, ℕ}
use Rattle.std.specs.FinMap as map
use Rattle.std.specs.Ordering.{nat_cmp}
use Rattle.cap_arena.specs.declared.nodes.Ends.{Ends}

abbrev pub Heads : Type 0
Heads = map.FinMap nat_cmp Ends

-- the ends of a list without nodes
abbrev pub no_ends : Ends
no_ends = record { first = None; last = None }

-- the ends, if there are some
abbrev pub ends_or_none : Option Ends → Ends
ends_or_none None = no_ends
ends_or_none (Some ends) = ends

-- the ends of the list with a number
abbrev pub ends_at : Heads → ℕ → Ends
ends_at heads number = ends_or_none (map.get heads number)

-- the ends, if there is a first node
abbrev pub kept_if : Option ℕ → Ends → Option Ends
kept_if None ends = None
kept_if (Some key) ends = Some ends

-- the ends, as they are kept: those of a list without nodes are not
abbrev pub kept : Ends → Option Ends
kept ends = kept_if ends.first ends

-- with room for the ends of the list with a number
abbrev pub with_room : Heads → ℕ → Heads
with_room heads number = if is_some (map.get heads number) then heads else map.insert heads number no_ends

-- without that room, if the list has no nodes
abbrev pub without_room : Heads → ℕ → Heads
without_room heads number = if is_some (ends_at heads number).first then heads else map.remove heads number
