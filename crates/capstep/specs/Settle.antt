-- The moves of a step: always the first that applies, until none does.
use Rattle.std.specs.List.{filter_map}
use Rattle.std.specs.Prelude.{◌≡◌, Bool, true, false, ◌&&◌, List, [], ◌∷◌, Option, Some, None, if◌then◌else◌}
use Rattle.capbits.specs.declared.cap.Part.{Part}
use Rattle.capbits.specs.declared.ids.Ino.{Ino}
use Rattle.inotree.specs.declared.node.Setting.{Setting}
use Rattle.locktable.specs.declared.states.StableState.{StableState}
use Rattle.capstep.specs.declared.outcome.Ended.{Ended}
use Rattle.capstep.specs.declared.outcome.Outcome.{Outcome}
use Rattle.lockmachine.specs.Locks.{request_at}
use Rattle.lockmachine.specs.Moves.{first_move, with_moved}
use Rattle.lockmachine.specs.declared.moves.Move.TheVariants.{Begin, End, Serve, Settled}
use Rattle.lockmachine.specs.declared.request.Change.TheVariants.{Set}
use Rattle.lockmachine.specs.declared.request.Operation.{Operation}
use Rattle.lockmachine.specs.declared.request.Operation.TheVariants.{Alter}
use Rattle.lockmachine.specs.declared.request.Request.{Request}
use Rattle.lockmachine.specs.Scene.{Scene}
use Rattle.capstep.specs.Serving.{MayEndAs, served}

-- a move that was made
pub data Made : Type 0 where
  Began : Ino → Part → StableState → Made
  Gathered : Ino → Part → Made
  Served : Request → Outcome → Made

-- the move is the first that applies, and leads from the old scene to the new
abbrev pub Makes : Scene → Made → Scene → Type 0
Makes old (Began ino part to) new = (first_move old ≡ Begin ino part to) × (new ≡ with_moved old (Begin ino part to))
Makes old (Gathered ino part) new = (first_move old ≡ End ino part) × (new ≡ with_moved old (End ino part))
Makes old (Served q o) new =
    (first_move old ≡ Serve q.ticket)
    × (request_at old.locks q.ticket.0 ≡ Some q)
    × MayEndAs old q o
    × (new ≡ served old q o)

-- the moves, one after another
abbrev pub MakesAll : Scene → List Made → Scene → Type 0
MakesAll old [] new = new ≡ old
MakesAll old (m ∷ ms) new = (mid : Scene) × Makes old m mid × MakesAll mid ms new

-- they are made until none applies
pub record Settles (old : Scene) (moves : List Made) (new : Scene) : Type 0 where
  pub made : MakesAll old moves new
  pub settled : first_move new ≡ Settled

abbrev pub ended_by : Made → Option Ended
ended_by (Served q o) = Some (record { client = q.client; ticket = q.ticket; outcome = o })
ended_by m = None

-- the requests that the moves ended, in order
abbrev pub ended_in : List Made → List Ended
ended_in moves = filter_map ended_by moves

-- ---- sizes

-- the request sets the size of its inode
abbrev pub sets_size : Operation → Bool
sets_size (Alter (Set (Setting.Size size))) = true
sets_size operation = false

abbrev pub is_done : Outcome → Bool
is_done Outcome.Done = true
is_done outcome = false

-- the inode whose size a move changed
abbrev pub sized_by : Made → Option Ino
sized_by (Served q o) = if sets_size q.operation && is_done o then Some q.ino else None
sized_by m = None

-- the inodes whose sizes the moves changed
abbrev pub sized_in : List Made → List Ino
sized_in moves = filter_map sized_by moves
