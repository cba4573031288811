-- Of what a client holds, what is being revoked: which caps these are, whoever holds how much.
use Rattle.std.specs.Prelude.{Bool, false, not, ◌&&◌, ◌||◌, Option, Some, None}
use Rattle.capbits.specs.declared.cap.Cap.{Cap}
use Rattle.capbits.specs.declared.cap.Part.{Part}
use Rattle.capbits.specs.declared.cap.Part.TheVariants.{A, F, L, X}
use Rattle.capbits.specs.declared.ids.ClientId.{ClientId}
use Rattle.capbits.specs.Caps.{has}
use Rattle.capbits.specs.Sets.{covers}
use Rattle.locktable.specs.declared.states.LockState.{LockState}
use Rattle.locktable.specs.declared.states.LockState.TheVariants.{Gather, Stable}
use Rattle.locktable.specs.Rows.{row_of}
use Rattle.captable.specs.declared.entry.Holder.{Holder}
use Rattle.lockmachine.specs.Locks.{lock_at}
use Rattle.lockmachine.specs.Policy.{permitted}
use Rattle.lockmachine.specs.Scene.{Scene}

-- the lock revokes the cap: it gathers, and the row of its target is without it
abbrev pub is_revoked_by : Part → ClientId → Cap → Option LockState → Bool
is_revoked_by part client c None = false
is_revoked_by part client c (Some (Stable state)) = false
is_revoked_by part client c (Some (Gather from to)) = covers c part && not (has (row_of part to client) c)

abbrev pub is_revoked_of : Scene → Holder → Cap → Part → Bool
is_revoked_of s k c part = is_revoked_by part k.client c (lock_at s.locks k.ino.0 part)

-- a lock revokes the cap, or it is not permitted to the holder
abbrev pub is_revoked : Scene → Holder → Cap → Bool
is_revoked s k c =
    (is_revoked_of s k c A || (is_revoked_of s k c L || (is_revoked_of s k c X || is_revoked_of s k c F)))
    || not (has (permitted s.fs s.tree s.sessions k) c)
