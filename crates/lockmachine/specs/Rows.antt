-- Where what clients hold lies in the table of the locks.
use Rattle.std.specs.Prelude.{None, Option, Some}
use Rattle.capbits.specs.declared.cap.Part.{Part}
use Rattle.capbits.specs.Sets.{IsSubset, no_caps, of_part}
use Rattle.locktable.specs.declared.states.LockState.{LockState}
use Rattle.locktable.specs.Rows.{row_of}
use Rattle.captable.specs.declared.entry.EntryRow.{EntryRow}
use Rattle.lockmachine.specs.Locks.{lock_at}
use Rattle.lockmachine.specs.Scene.{Scene}
use Rattle.lockmachine.specs.Moves.{present_state}

abbrev pub IsInRowOf : EntryRow → Part → Option LockState → Type 0
IsInRowOf row part None = IsSubset (of_part part row.entry.held) no_caps
IsInRowOf row part (Some lock) =
    IsSubset (of_part part row.entry.held) (row_of part (present_state (Some lock)) row.holder.client)

-- what the entry holds of the part is in the row of the state that the part's lock has, or leaves in a gather; where
-- there is no lock, it holds nothing of the part
abbrev pub IsInRow : Scene → EntryRow → Part → Type 0
IsInRow s row part = IsInRowOf row part (lock_at s.locks row.holder.ino.0 part)
