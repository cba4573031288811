-- What a request waits for, and how it stands in a queue.
use Rattle.std.specs.Prelude.{ℕ, ◌<◌, Bool, ◌==◌, ◌&&◌, List, Option, None, Some, AllPairs}
use Rattle.std.specs.List.{find}
use Rattle.capbits.specs.declared.cap.Part.{Part}
use Rattle.capbits.specs.declared.cap.Part.TheVariants.{A, F, L, X}
use Rattle.capbits.specs.declared.ids.ClientId.{ClientId}
use Rattle.inotree.specs.declared.node.Setting.{Setting}
use Rattle.inotree.specs.declared.node.Setting.TheVariants.{Gid, Mode, Size, Time, Uid}
use Rattle.locktable.specs.declared.targets.Head.{Head}
use Rattle.locktable.specs.declared.targets.Head.TheVariants as kind
use Rattle.lockmachine.specs.declared.request.Change.{Change}
use Rattle.lockmachine.specs.declared.request.Change.TheVariants.{RemoveXattr, Set, SetXattr}
use Rattle.lockmachine.specs.declared.request.Operation.{Operation}
use Rattle.lockmachine.specs.declared.request.Operation.TheVariants.{Alter, Get, Rename, Rmdir, Unlink}
use Rattle.lockmachine.specs.declared.request.Request.{Request}

-- parts count in the order A, L, X, F
abbrev pub part_place : Part → ℕ
part_place A = 0
part_place L = 1
part_place X = 2
part_place F = 3

abbrev pub same_part : Part → Part → Bool
same_part a b = part_place a == part_place b

-- the part that a setting belongs to
abbrev pub part_of_setting : Setting → Part
part_of_setting (Mode mode) = A
part_of_setting (Uid uid) = A
part_of_setting (Gid gid) = A
part_of_setting (Size size) = F
part_of_setting (Time time) = F

abbrev pub part_of_change : Change → Part
part_of_change (Set setting) = part_of_setting setting
part_of_change (SetXattr name value) = X
part_of_change (RemoveXattr name) = X

-- the part whose lock a request waits for
abbrev pub part_of_operation : Operation → Part
part_of_operation (Get part) = part
part_of_operation (Alter change) = part_of_change change
part_of_operation Unlink = L
part_of_operation Rmdir = L
part_of_operation (Rename dir name) = L

-- what a lock sees of a request that is first in its queue: who reads, or that something is to change
abbrev pub head_of_operation : ClientId → Operation → Head
head_of_operation client (Get part) = kind.Read client
head_of_operation client (Alter change) = kind.Change
head_of_operation client Unlink = kind.Change
head_of_operation client Rmdir = kind.Change
head_of_operation client (Rename dir name) = kind.Change

abbrev pub head_of : Option Request → Head
head_of None = kind.Empty
head_of (Some q) = head_of_operation q.client q.operation

-- the request waits for the lock of this part
abbrev pub is_for : ℕ → Part → Request → Bool
is_for ino part q = (q.ino.0 == ino) && same_part (part_of_operation q.operation) part

-- it waits for a lock of this inode
abbrev pub waits_for : ℕ → Request → Bool
waits_for ino q = q.ino.0 == ino

-- the request that waits longest for the lock: a queue has the oldest first
abbrev pub first_for : List Request → ℕ → Part → Option Request
first_for queue ino part = find (is_for ino part) queue

abbrev pub is_numbered : ℕ → Request → Bool
is_numbered ticket q = q.ticket.0 == ticket

-- the request is this client's
abbrev pub is_of_client : ClientId → Request → Bool
is_of_client client q = q.client.0 == client.0

-- each request has a number below those of all that stand behind it
abbrev pub AreTicketsRising : List Request → Type 0
AreTicketsRising queue = AllPairs (λ earlier later. earlier.ticket.0 < later.ticket.0) queue
