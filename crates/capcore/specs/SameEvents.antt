-- Where no request finds no memory, events alone say what is answered and where they lead.
use Rattle.std.specs.Prelude.{◌≢◌, List, All, map}
use Rattle.capbits.specs.declared.ids.PassId.{PassId}
use Rattle.capstep.specs.declared.event.Event.{Event}
use Rattle.capstep.specs.declared.outcome.Ended.{Ended}
use Rattle.capstep.specs.declared.outcome.Outcome.{Outcome}
use Rattle.capstep.specs.declared.reply.Reply.{Reply}
use Rattle.capstep.specs.declared.row.Row.{Row}

-- neither the request of this answer nor one of those that ended found no memory
pub record FoundMemory (reply : Reply) (ended : List Ended) : Type 0 where
  pub replied : reply ≢ Reply.OutOfMemory
  pub each : All (λ m. m.outcome ≢ Outcome.OutOfMemory) ended

-- so it is of each row
abbrev pub AllFoundMemory : List Row → Type 0
AllFoundMemory rows = All (λ row. FoundMemory row.reply row.ended) rows

-- the events
abbrev pub events_of : List Row → List Event
events_of rows = map (λ row. row.event) rows

-- how each ended: its answer, and the requests of earlier rows that it ended
abbrev pub ends_of : List Row → List (Reply × List Ended)
ends_of rows = map (λ row. (row.reply, row.ended)) rows

-- who called them
abbrev pub passes_of : List Row → List PassId
passes_of rows = map (λ row. row.pass) rows
