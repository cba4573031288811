-- Where each lock is quiet, no move applies.
use Rattle.std.proofs.Common.{◌≡◌, Bool, true, false, ◌&&◌, not, Option, Some, None, refl, ap, ◌∙◌}
use Rattle.std.specs.Cmp.{nat_eq_equiv}
use Rattle.std.specs.Option.{option_map_or}
use Rattle.locktable.specs.declared.states.StableState.{StableState}
use Rattle.locktable.specs.declared.states.StableState.TheVariants.{Excl, Lock, Mix, Sync}
use Rattle.locktable.specs.declared.states.LockState.{LockState}
use Rattle.locktable.specs.declared.states.LockState.TheVariants.{Gather, Stable}
use Rattle.lockmachine.specs.declared.request.Request.{Request}
use Rattle.lockmachine.specs.declared.moves.Move.TheVariants.{Settled}
use Rattle.lockmachine.specs.Requests.{first_for, head_of_operation, is_numbered, part_of_operation}
use Rattle.lockmachine.specs.Locks.{lock_at}
use Rattle.lockmachine.specs.Scene.{Scene, wanted_in_all}
use Rattle.lockmachine.specs.Moves.{IsAtRest, IsLockAtRest, LockId, first_move, is_served_in, lock_ids, may_begin, may_begin_in, may_end, may_end_in, may_serve}
use Rattle.lockmachine.specs.Moves.{same_state}
use Rattle.lockmachine.specs.Cursors.{begin_or_rest, end_or_serve, serve_or_begin}
use Rattle.lockmachine.proofs.FirstMove.{first-found}
use Rattle.lockmachine.proofs.Finding.{find_none}

and_false : (b : Bool) → (b && false) ≡ false
and_false true = refl
and_false false = refl

pub same_state_itself : (state : StableState) → same_state state state ≡ true
same_state_itself Sync = refl
same_state_itself Lock = refl
same_state_itself Mix = refl
same_state_itself (Excl c) = nat_eq_equiv.refl c.0

pub ends_not : (s : Scene) (at : LockId) (o : Option LockState) → IsLockAtRest s at.0 at.1 o → may_end_in s.table at o ≡ false
ends_not s at None q = refl
ends_not s at (Some (Stable state)) q = refl
ends_not s at (Some (Gather from to)) q = ap not q

pub begins_not : (s : Scene) (at : LockId) (o : Option LockState) → IsLockAtRest s at.0 at.1 o → may_begin_in s.locks.queue (wanted_in_all s at.0) at o ≡ false
begins_not s at None q = refl
begins_not s at (Some (Gather from to)) q = refl
begins_not s at (Some (Stable state)) q = ap (λ st. not (same_state st state)) q.0 ∙ ap not (same_state_itself state)

pub serves_not : (s : Scene) (r : Request) (o : Option LockState) → IsLockAtRest s r.ino.0 (part_of_operation r.operation) o
    → (option_map_or (is_numbered r.ticket.0) (first_for s.locks.queue r.ino.0 (part_of_operation r.operation)) false && is_served_in o (head_of_operation r.client r.operation)) ≡ false
serves_not s r None q = and_false _
serves_not s r (Some (Gather from to)) q = and_false _
serves_not s r (Some (Stable state)) q = ap (λ f. option_map_or (is_numbered r.ticket.0) f false && is_served_in (Some (Stable state)) (head_of_operation r.client r.operation)) q.1

pub settled : (s : Scene) → IsAtRest s → first_move s ≡ Settled
settled s rest =
    first-found s
    ∙ ap (end_or_serve s) (find_none (may_end s) (lock_ids s.locks) (λ at inside. ends_not s at (lock_at s.locks at.0 at.1) (rest.each at.0 at.1)))
    ∙ ap (serve_or_begin s) (find_none (may_serve s.locks) s.locks.queue (λ r inside. serves_not s r (lock_at s.locks r.ino.0 (part_of_operation r.operation)) (rest.each r.ino.0 (part_of_operation r.operation))))
    ∙ ap (begin_or_rest s) (find_none (may_begin s) (lock_ids s.locks) (λ at inside. begins_not s at (lock_at s.locks at.0 at.1) (rest.each at.0 at.1)))
