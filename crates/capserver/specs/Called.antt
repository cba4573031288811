-- What a call says of the core when the lock is free again: not which state it found, but that there is one.
use Rattle.std.specs.Prelude.{ℕ}
use Rattle.capbits.specs.declared.ids.PassId.{PassId}
use Rattle.capstep.specs.History.{CoreValue}
use Rattle.capcore.specs.Promised.{IsPromised}
use Rattle.capstep.specs.State.{State}
use Rattle.capstep.specs.declared.event.Event.{Event}
use Rattle.capstep.specs.declared.reply.Reply.{Reply}
use Rattle.capserver.specs.Held.{IsLed}

-- from some state, to which a history leads from the opening, an event of this pass is answered so, with all that is promised of one
pub record IsStep (opening : State) (max_rows : ℕ) (pass : PassId) (event : Event) (reply : Reply) : Type 0 where
  pub old : CoreValue
  pub led : IsLed opening max_rows old
  pub new : CoreValue
  pub promised : IsPromised old pass event reply new
