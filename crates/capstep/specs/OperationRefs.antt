-- The operation of a request, as it is judged.
use Rattle.lockmachine.specs.declared.request.Operation.{Operation}
use Rattle.capstep.specs.declared.operations.OperationRef.{OperationRef}
use Rattle.capstep.specs.declared.operations.OperationRef.TheVariants.{Alter, Get, Rename, Rmdir, Unlink}

-- the borrowed operation, as it waits in the queue
abbrev pub operation_of : OperationRef → Operation
operation_of (Get part) = Operation.Get part
operation_of (Alter change) = Operation.Alter change.now
operation_of Unlink = Operation.Unlink
operation_of Rmdir = Operation.Rmdir
operation_of (Rename dir name) = Operation.Rename dir name.now
