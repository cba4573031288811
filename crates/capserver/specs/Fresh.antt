-- What a fresh call leaves.
use Rattle.std.specs.Prelude.{◌≡◌, ℕ, ◌<◌, List, [], ◌∷◌, ◌++◌, length}
use mathlib.Core.List.{IsPrefix}
use Rattle.capstep.specs.History.{made_row}
use Rattle.capstep.specs.declared.event.Event.{Event}
use Rattle.capstep.specs.declared.row.Row.{Row}
use Rattle.capstep.specs.declared.outcome.Ended.{Ended}
use Rattle.capstep.specs.declared.reply.Reply.{Reply}
use Rattle.capserver.specs.Passes.{PassState, pass_id}

-- what the pass knew is a proper beginning of what it knows, and that ends with a row of the pass, of this event and this reply
pub record IsFresh (old new : PassState) (event : Event) (reply : Reply) : Type 0 where
  pub before : List Row
  pub nth : ℕ
  pub ended : List Ended
  pub ends : new.known ≡ before ++ made_row (pass_id old) nth event reply ended ∷ []
  pub begins : IsPrefix old.known new.known
  pub proper : length old.known < length new.known
