-- How a request that waits for a lock is judged when it is served, and what it does then.
use Rattle.std.specs.Prelude.{◌≡◌, ℕ, Bool, true, false, IsTrue, Option, Some, None}
use Rattle.std.specs.FinMap as map
use Rattle.capbits.specs.declared.cap.Part.{Part}
use Rattle.capbits.specs.declared.cap.Part.TheVariants.{A, F, L, X}
use Rattle.inotree.specs.declared.node.Node.{Node}
use Rattle.capstep.specs.declared.outcome.Ended.{Ended}
use Rattle.capstep.specs.declared.outcome.Outcome.{Outcome}
use Rattle.capstep.specs.declared.outcome.PartValues.{PartValues}
use Rattle.capstep.specs.Changing.{tree_after}
use Rattle.lockmachine.specs.Moves.{moved as moved_locks}
use Rattle.lockmachine.specs.declared.moves.Move.TheVariants.{Serve}
use Rattle.lockmachine.specs.declared.request.Change.{Change}
use Rattle.lockmachine.specs.declared.request.Change.TheVariants.{SetXattr}
use Rattle.lockmachine.specs.declared.request.Operation.{Operation}
use Rattle.lockmachine.specs.declared.request.Operation.TheVariants.{Alter, Get, Rename}
use Rattle.lockmachine.specs.declared.request.Request.{Request}
use Rattle.lockmachine.specs.Scene.{Scene}
use Rattle.capstep.specs.Judge.{rejection_of}
use Rattle.capstep.specs.Operations.{operation_after, operation_before, operation_needs}
use Rattle.capstep.specs.declared.rejection.Rejection.{Rejection}
use Rattle.capstep.specs.declared.rejection.Rejection.TheVariants.{ByPolicy, ByTest}

-- what rejects the request now
abbrev pub judged_again : Scene → Request → Option Rejection
judged_again s q = rejection_of s (operation_before s q.ino.0 q.operation) (operation_needs s q.client q.ino.0 q.operation) (operation_after s q.ino.0 q.operation)

-- ---- what it does

abbrev pub values_of : Part → Node → PartValues
values_of A node = PartValues.Auth node.attr
values_of L node = PartValues.Link
values_of X node = PartValues.Xattr node.attributes
values_of F node = PartValues.File node.size node.time

-- what the inode keeps of a part; one that a test has found is there
abbrev pub values_outcome : Part → Option Node → Outcome
values_outcome part None = Outcome.Done
values_outcome part (Some node) = Outcome.Values (values_of part node)

abbrev pub passed_as : Scene → ℕ → Operation → Outcome
passed_as s ino (Get part) = values_outcome part (map.get s.tree.nodes ino)
passed_as s ino operation = Outcome.Done

-- what rejected it, as its outcome
abbrev pub rejection_outcome : Rejection → Outcome
rejection_outcome (ByPolicy access rules) = Outcome.Denied access rules
rejection_outcome (ByTest refusal) = Outcome.Refused refusal

abbrev pub outcome_unless : Scene → Request → Option Rejection → Outcome
outcome_unless s q (Some rejection) = rejection_outcome rejection
outcome_unless s q None = passed_as s q.ino.0 q.operation

abbrev pub change_takes_memory : Change → Bool
change_takes_memory (SetXattr name value) = true
change_takes_memory change = false

-- an attribute that is set, a new name and a list of attributes take memory
abbrev pub takes_memory : Operation → Bool
takes_memory (Get X) = true
takes_memory (Alter change) = change_takes_memory change
takes_memory (Rename dir name) = true
takes_memory operation = false

-- how it may end: as it is judged now; or nothing rejects it, but it takes memory and finds none
pub data MayEndAs (s : Scene) (q : Request) : Outcome → Type 0 where
  As_judged : MayEndAs s q (outcome_unless s q (judged_again s q))
  Without_memory : judged_again s q ≡ None → IsTrue (takes_memory q.operation) → MayEndAs s q Outcome.OutOfMemory

-- it waits no more
abbrev pub served : Scene → Request → Outcome → Scene
served s q o = record s { tree = tree_after s.tree q o; locks = moved_locks s.locks (Serve q.ticket) }

-- ---- unserved

-- a request ends unserved, since its client's session does
abbrev pub dropped_of : Request → Ended
dropped_of q = record { client = q.client; ticket = q.ticket; outcome = Outcome.Dropped }
