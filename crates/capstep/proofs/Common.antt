-- The names that proofs of this crate cite of the crates below, passed on from one place. Declares nothing.
pub use Rattle.capbits.specs.Refusal.{first_failing}
pub use Rattle.capbits.specs.declared.ids.ClientId.{ClientId}
pub use Rattle.capbits.specs.declared.ids.Ino.{Ino}
pub use Rattle.capbits.specs.declared.refusal.Refusal.{Refusal}
pub use Rattle.capgrant.specs.declared.access.Access.{Access}
pub use Rattle.inotree.specs.Tree.{Nodes}
pub use Rattle.captable.specs.declared.entry.Holder.{Holder}
pub use Rattle.capstep.specs.Judge.{denial_of, rejection_of}
pub use Rattle.capstep.specs.Needs.{Need, need}
pub use Rattle.capstep.specs.Numbers.{rows_of}
pub use Rattle.capstep.specs.Operations.{operation_after, operation_before, operation_needs}
pub use Rattle.capstep.specs.declared.rejection.Rejection.{Rejection}
pub use Rattle.capstep.specs.declared.row.Row.{Row}
pub use Rattle.lockmachine.specs.declared.request.Operation.{Operation}
pub use Rattle.lockmachine.specs.declared.request.Operation.TheVariants.{Alter, Rmdir, Unlink}
pub use Rattle.lockmachine.specs.Scene.{Scene}
