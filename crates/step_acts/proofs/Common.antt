-- The names that proofs of this crate cite of the crates below, passed on from one place. Declares nothing.
pub use Rattle.capbits.specs.Caps.{Caps}
pub use Rattle.capbits.specs.Refusal.{first_failing}
pub use Rattle.capbits.specs.Sets.{no_caps}
pub use Rattle.capbits.specs.declared.ids.ClientId.{ClientId}
pub use Rattle.capbits.specs.declared.ids.Ino.{Ino}
pub use Rattle.inotree.specs.Alike.{IsAlike}
pub use Rattle.inotree.specs.InoSets.{InoSet}
pub use Rattle.inotree.specs.Tree.{Nodes}
pub use Rattle.captable.proofs.ByHolder.{row_of-entry}
pub use Rattle.captable.proofs.Tables.{among-filter, holders-filter, same-is, same_equiv}
pub use Rattle.captable.specs.Calls.{renumbered}
pub use Rattle.captable.specs.Known.{no_sets}
pub use Rattle.captable.specs.Table.{Table, entry_at, entry_of, holders_of_rows, is_among, is_row_of, same}
pub use Rattle.captable.specs.declared.entry.Entry.{Entry}
pub use Rattle.captable.specs.declared.entry.EntryRow.{EntryRow}
pub use Rattle.captable.specs.declared.entry.Holder.{Holder}
pub use Rattle.captable.specs.declared.entry.ClientView.{ClientView}
pub use Rattle.capstep.specs.Judge.{rejection_of}
pub use Rattle.capstep.specs.Numbers.{rows_of}
pub use Rattle.capstep.specs.Operations.{operation_after, operation_before, operation_needs}
pub use Rattle.capstep.specs.Serving.{judged_again, takes_memory}
pub use Rattle.capstep.specs.declared.rejection.Rejection.{Rejection}
pub use Rattle.capstep.specs.declared.outcome.Outcome.{Outcome}
pub use Rattle.capstep.specs.declared.row.Row.{Row}
pub use Rattle.capstep.specs.Changing.{tree_after, tree_with}
pub use Rattle.lockmachine.specs.Policy.{ArePermitted, permitted}
pub use Rattle.lockmachine.specs.Requests.{is_of_client}
pub use Rattle.lockmachine.specs.declared.request.Change.{Change}
pub use Rattle.lockmachine.specs.declared.request.Operation.{Operation}
pub use Rattle.lockmachine.specs.declared.request.Operation.TheVariants.{Alter, Rmdir, Unlink}
pub use Rattle.lockmachine.specs.declared.request.Request.{Request}
pub use Rattle.lockmachine.specs.Scene.{Scene}
