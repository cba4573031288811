-- Who holds what of an inode, by the numbers of sessions.
use Rattle.std.specs.Prelude.{ℕ, List}
use Rattle.capbits.specs.Sets.{caps_in}
use Rattle.capbits.specs.declared.cap.Cap.{Cap}
use Rattle.cluster_audit.specs.declared.conflict.Conflict.{Conflict}
use Rattle.cluster_audit.specs.declared.conflict.Holding.{Holding}

abbrev pub holds : ℕ → List Cap → Holding
holds session caps = record { client = session; caps = caps_in caps }

-- the one holds these beside those of the other
abbrev pub beside : Holding → Holding → Conflict
beside one other = record { one = one; other = other }
