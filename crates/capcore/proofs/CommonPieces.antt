-- The names that proofs of the pieces of a step cite of the crates below, passed on from one place. Declares nothing.
pub use Rattle.capbits.proofs.Emptiness.{has-is_empty}
pub use Rattle.capbits.specs.Caps.{Caps}
pub use Rattle.capbits.specs.Refusal.{Test, first_failing}
pub use Rattle.capbits.specs.Sets.{IsSubset, and_parts, caps_in, has-caps_in, has-meet, has-minus, has-none, has-of_part, has-union, is_empty, meet, minus}
pub use Rattle.capbits.specs.Sets.{of_part, same_caps, union}
pub use Rattle.capbits.specs.declared.cap.Cap.{Cap}
pub use Rattle.capbits.specs.declared.cap.Cap.TheVariants.{Fc, P}
pub use Rattle.capbits.specs.declared.cap.Part.{Part}
pub use Rattle.capbits.specs.declared.cap.Part.TheVariants.{A, F, L, X}
pub use Rattle.capbits.specs.declared.ids.ClientId.{ClientId}
pub use Rattle.capbits.specs.declared.ids.Ino.{Ino}
pub use Rattle.capbits.specs.declared.ids.Ticket.{Ticket}
pub use Rattle.inotree.proofs.OneInode.{exist-changed}
pub use Rattle.inotree.specs.Alike.{IsAlike}
pub use Rattle.inotree.specs.InoSets.{InoSet, IsListOf, IsNext}
pub use Rattle.inotree.specs.Tests.{is_gone}
pub use Rattle.inotree.specs.Tree.{IsTree, Nodes, is_within, presence}
pub use Rattle.inotree.specs.declared.node.Node.{Node}
pub use Rattle.inotree.specs.declared.node.Presence.TheVariants.{Gone}
pub use Rattle.captable.proofs.ByHolder.{entry_at-opened, entry_at-opened_other, entry_at-without, row_found, row_of-entry}
pub use Rattle.captable.proofs.ByInode.{entries_on-changed, entries_on-without}
pub use Rattle.captable.proofs.Changes.{no_entry, none_found, same_found}
pub use Rattle.captable.proofs.OneByOne.{fold-changed_by, fold-on_inode, same_holder}
pub use Rattle.captable.proofs.Searches.{filter-map, find-filter_kept, find-map, find_passes}
pub use Rattle.captable.proofs.Tables.{same-is, same_equiv}
pub use Rattle.captable.specs.Calls.{acked, change_rows, changed, entries_on, has_pin, is_due, is_of_client, is_of_inode, new_entry, opened, renumbered}
pub use Rattle.captable.specs.Calls.{touched, wanting, with_asked, with_entry, with_size_due, with_told, without, without_acked, without_released}
pub use Rattle.captable.specs.Kept.{KeptTable}
pub use Rattle.captable.specs.Many.{changed_by, changed_where, remade}
pub use Rattle.captable.specs.Table.{IsTable, Table, entry_at, entry_of, holder, holders_of_rows, is_among, is_row_of, same}
pub use Rattle.captable.specs.Tests.{test_at}
pub use Rattle.captable.specs.declared.entry.Entry.{Entry}
pub use Rattle.captable.specs.declared.entry.EntryRow.{EntryRow}
pub use Rattle.captable.specs.declared.entry.Holder.{Holder}
pub use Rattle.locktable.specs.Rows.{row_of}
pub use Rattle.locktable.specs.declared.states.LockState.{LockState}
pub use Rattle.locktable.specs.declared.states.LockState.TheVariants.{Gather, Stable}
pub use Rattle.locktable.specs.declared.states.StableState.{StableState}
pub use Rattle.locktable.specs.declared.states.StableState.TheVariants.{Sync}
pub use Rattle.sessiontab.specs.Calls.{has_session}
pub use Rattle.sessiontab.specs.Table.{SessionTable}
pub use Rattle.step_acts.proofs.Held.{or_inside}
pub use Rattle.step_acts.proofs.KeptSets.{found-stays, kept-as, kept-nobody, kept-none, kept-not, kept-same, kept-then, was-there}
pub use Rattle.step_acts.proofs.Renewed.{found-contains}
pub use Rattle.step_acts.proofs.Walked.{second_true}
pub use Rattle.step_acts.specs.Finishing.{clients_of, entry_by, entry_under, numbered_as, pending_at, pending_by}
pub use Rattle.step_acts.specs.Known.{AreKnown, ClientViews, KnownAnew, OthersHaveAll, StillKnown, is_still_known, known_anew, known_in, known_of, permitted_of}
pub use Rattle.step_acts.specs.AffectedInodes.{AreWalked, Covers, IsWidenedBy, Widens}
pub use Rattle.step_acts.specs.Served.{is_rename}
pub use Rattle.capstep.specs.declared.event.Event.{Event}
pub use Rattle.capstep.specs.declared.event.OpenMode.{OpenMode}
pub use Rattle.capstep.specs.declared.outcome.Ended.{Ended}
pub use Rattle.capstep.specs.declared.outcome.Message.{Message}
pub use Rattle.capstep.specs.declared.outcome.Outcome.{Outcome}
pub use Rattle.capstep.specs.declared.reply.Reply.{Reply}
pub use Rattle.capstep.proofs.Noting.{leads-none, leads-then}
pub use Rattle.capstep.specs.Changing.{tree_after, tree_with}
pub use Rattle.capstep.specs.DueEndings.{is_to}
pub use Rattle.capstep.specs.NotedChanges.{LeadOn}
pub use Rattle.capstep.specs.Direct.{Direct, Gives, Shows, direct, effect, effect_unless, opening_wants, reply_of, shown, with_scene}
pub use Rattle.capstep.specs.Finish.{finished, forget, is_in_use, is_sized, issuable, issuable_under, issue, issue_row, number, number_row, owed, sizes_owed}
pub use Rattle.capstep.specs.Finish.{still_known}
pub use Rattle.capstep.specs.Headline.{IsInPlace, IssuesExactly}
pub use Rattle.capstep.specs.Judge.{judged, rejection_reply, revoked_of}
pub use Rattle.capstep.specs.Messages.{after_messages, end_messages, first_messages, is_caps_of, is_recall_of, is_size_of, row_messages, sized_if, told_if}
pub use Rattle.capstep.specs.Messages.{unasked_if}
pub use Rattle.capstep.specs.Settle.{Began, Gathered, Made, Makes, MakesAll, Served, Settles, ended_by, ended_in, sized_by, sized_in}
pub use Rattle.capstep.specs.Sound.{AreGiven, IsSound, IsSoundEntry}
pub use Rattle.capstep.specs.State.{State}
pub use Rattle.capstep.specs.Step.{Step, state_after, state_at_end}
pub use Rattle.capstep.specs.declared.rejection.Rejection.{Rejection}
pub use Rattle.lockmachine.proofs.CountsStay.{counted-held}
pub use Rattle.lockmachine.proofs.Exact.{ends_not, settled}
pub use Rattle.lockmachine.proofs.Finding.{contains-filter, filter-contains}
pub use Rattle.lockmachine.proofs.PolicyElsewhere.{alike-itself, permitted-stays, wants-stay}
pub use Rattle.lockmachine.proofs.Rest.{same_key}
pub use Rattle.lockmachine.proofs.Pending.{has-against, has-pending, pending-less}
pub use Rattle.lockmachine.proofs.Waiting.{resting-waits-at, served-at, waits-stay-at}
pub use Rattle.lockmachine.specs.Counts.{AreCounted, CountedLocks, has_outside}
pub use Rattle.lockmachine.specs.Inodes.{StateMap, in_sync, lock_in}
pub use Rattle.lockmachine.specs.Locks.{IsLockMap, LockMap, lock_at, request_at, without_request}
pub use Rattle.lockmachine.specs.Moves.{IsAtRest, IsLockAtRest, LockId, first_move, is_open}
pub use Rattle.lockmachine.specs.Policy.{ArePermitted, permitted}
pub use Rattle.lockmachine.specs.Requests.{first_for, is_numbered, part_of_operation}
pub use Rattle.lockmachine.specs.Revoked.{is_revoked}
pub use Rattle.lockmachine.specs.Rows.{IsInRow, IsInRowOf}
pub use Rattle.lockmachine.specs.Runs.{ChangesLocksOf}
pub use Rattle.lockmachine.specs.Scene.{Scene, against, outside, pending_of, plain, scene, wants}
pub use Rattle.lockmachine.specs.Cursors.{IsCursorAt, WaitAt, may_end_by}
pub use Rattle.lockmachine.specs.Under.{allowed_under}
pub use Rattle.lockmachine.specs.Wants.{effective_want}
pub use Rattle.lockmachine.specs.declared.moves.Move.TheVariants.{Serve, Settled}
pub use Rattle.lockmachine.specs.declared.request.Operation.{Operation}
pub use Rattle.lockmachine.specs.declared.request.Request.{Request}
pub use Rattle.lockmachine.specs.declared.scene.KeptScene.{KeptScene}
pub use Rattle.lockmachine.specs.declared.states.InodeLocks.{InodeLocks}
