-- Locks that were added and are dropped again.
use Rattle.std.proofs.Common.{◌≡◌, ℕ, ◌+◌, None, ap, arith}
use Rattle.std.specs.Cmp.{nat_cmp_total}
use Rattle.std.specs.Option.{is_some}
use Rattle.std.specs.FinMap as map
use Rattle.capbits.proofs.Maps.{put_back}
use Rattle.lockmachine.specs.Locks.{without_ino}
use Rattle.capcore.proofs.Common.{IsSound, IsTree, LockMap, State, StateMap, in_sync, no_locks, with_ino}

pub added-dropped : (locks : LockMap) (ino : ℕ) → map.get locks.states ino ≡ None → without_ino (with_ino locks ino) ino ≡ locks
added-dropped locks ino none = ap (λ (states : StateMap). record locks { states = states }) (put_back nat_cmp_total map.nat_cmp-IsAntisymmetric locks.states ino in_sync none)

-- a number that was not given has no locks
pub not_given : {s : State} → IsSound s → IsTree s.scene.tree → map.get s.scene.locks.states (s.scene.tree.last + 1) ≡ None
not_given {s} sound tree = no_locks s sound (s.scene.tree.last + 1) (ap is_some (tree.given (s.scene.tree.last + 1) (omega (arith))))
