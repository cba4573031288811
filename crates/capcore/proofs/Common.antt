-- The names that proofs of whole steps cite of their pieces and of the crates below, passed on from one place. Declares nothing.
pub use Rattle.capbits.proofs.Tests.{failing-front, pass-both, passed-both}
pub use Rattle.capbits.specs.Caps.{Caps, has}
pub use Rattle.capbits.specs.Refusal.{Test, first_failing}
pub use Rattle.capbits.specs.Sets.{IsSubset, caps_in}
pub use Rattle.capbits.specs.declared.cap.Cap.{Cap}
pub use Rattle.capbits.specs.declared.cap.Part.{Part}
pub use Rattle.capbits.specs.declared.ids.ClientId.{ClientId}
pub use Rattle.capbits.specs.declared.ids.Ino.{Ino}
pub use Rattle.capbits.specs.declared.ids.Ticket.{Ticket}
pub use Rattle.capbits.specs.declared.refusal.Refusal.{Refusal}
pub use Rattle.capgrant.specs.declared.access.Access.{Access}
pub use Rattle.capgrant.specs.declared.access.Access.TheVariants.{Snapshot, Write}
pub use Rattle.capgrant.specs.declared.access.Attr.{Attr}
pub use Rattle.capgrant.specs.declared.rule.Rule.{Rule}
pub use Rattle.capbits.proofs.Maps.{change-at}
pub use Rattle.inotree.specs.InoSets.{InoSet}
pub use Rattle.inotree.specs.Inodes.{with_snapshot, without_snapshot}
pub use Rattle.inotree.specs.Tests.{create_tests, inode_tests, new_inode_tests, new_snapshot_tests, old_snapshot_tests}
pub use Rattle.inotree.specs.Tree.{IsTree, Nodes, child, presence}
pub use Rattle.inotree.specs.declared.node.Kind.{Kind}
pub use Rattle.inotree.specs.declared.node.Kind.TheVariants.{Directory, File}
pub use Rattle.inotree.specs.declared.node.Node.{Node}
pub use Rattle.captable.proofs.ByHolder.{entry_at-without_client_other, row_of-entry}
pub use Rattle.captable.proofs.Tables.{IsTable-recalled, IsTable-without_client}
pub use Rattle.captable.specs.Calls.{entries_on, is_of_client, is_of_inode, recalled, touched, with_told, without_client}
pub use Rattle.captable.specs.Kept.{KeptTable}
pub use Rattle.captable.specs.Known.{permitted_of}
pub use Rattle.captable.specs.Many.{changed_where}
pub use Rattle.captable.specs.Table.{IsTable, Table, entry_at, holder, is_among, is_row_of, same}
pub use Rattle.captable.specs.Tests.{release_tests}
pub use Rattle.captable.specs.declared.entry.Entry.{Entry}
pub use Rattle.captable.specs.declared.entry.EntryRow.{EntryRow}
pub use Rattle.captable.specs.declared.entry.Holder.{Holder}
pub use Rattle.captable.specs.declared.entry.ClientView.{ClientView}
pub use Rattle.locktable.specs.declared.states.LockState.{LockState}
pub use Rattle.locktable.specs.declared.states.LockState.TheVariants.{Gather, Stable}
pub use Rattle.sessiontab.specs.Calls.{has_session}
pub use Rattle.sessiontab.specs.Changes.{changed_sessions, is_end, new_grants}
pub use Rattle.sessiontab.specs.declared.change.SessionChange.{SessionChange}
pub use Rattle.sessiontab.specs.Table.{SessionTable}
pub use Rattle.sessiontab.specs.Tests.{new_session_tests, session_tests}
pub use Rattle.sessiontab.specs.declared.session.Session.{Session}
pub use Rattle.capcore.proofs.Among.{one-counts, one-inode}
pub use Rattle.capcore.proofs.Room.{room-for}
pub use Rattle.capcore.proofs.EntryRequests.{AreBelow, all-left, request-table}
pub use Rattle.capcore.proofs.SoundEnd.{sound-settles}
pub use Rattle.capcore.proofs.Judged.{none-judged}
pub use Rattle.capcore.proofs.Passed.{no_test, passed, rejection}
pub use Rattle.capcore.proofs.Knowing.{HoldAlike, alike-less, alike-where, still-knows, still-there}
pub use Rattle.capcore.proofs.LeftAlone.{found-contains, no_locks, stays-finished, stays-sound}
pub use Rattle.capcore.proofs.ManyInodes.{table-where}
pub use Rattle.capcore.proofs.Moved.{Waited, ended-waited, moved-all, sound-pinned}
pub use Rattle.capcore.proofs.Rejecting.{no_moves, rejection-only, rejection-step}
pub use Rattle.capcore.proofs.Revoking.{passed-front}
pub use Rattle.capcore.proofs.SameOff.{row_elsewhere}
pub use Rattle.capcore.proofs.ShownSteps.{apart_client, step-shown}
pub use Rattle.capcore.proofs.Telling.{shown-given, shown-issued, shown-sound}
pub use Rattle.capcore.specs.Affected.{Affects, AffectsOne, IsAffectedEntry, Knows, SettlesAt, finished_at, operation_by}
pub use Rattle.capcore.specs.Replied.{IsReplied}
pub use Rattle.capcore.specs.Begun.{AreCountedIn, ArePermittedIn, HaveRoomFor, MayEnd, MaySettle}
pub use Rattle.capcore.specs.EntryRequest.{entry_event, entry_reply}
pub use Rattle.capcore.specs.Judged.{IsJudged}
pub use Rattle.capcore.specs.Sparing.{SparesEntries, with_parts}
pub use Rattle.capcore.specs.Serves.{EndsWith, SettlesWith}
pub use Rattle.capcore.specs.SessionChange.{session_changed}
pub use Rattle.capcore.specs.declared.output.StepOutput.{StepOutput}
pub use Rattle.capcore.specs.declared.entry_request.EntryRequest.{EntryRequest}
pub use Rattle.capcore.specs.declared.entry_request.EntryRequest.TheVariants.{Ack, Release}
pub use Rattle.capcore.specs.declared.step_reply.StepReply.{StepReply}
pub use Rattle.capcore.specs.declared.settle.Affected.{Affected}
pub use Rattle.capstep.proofs.Rejecting.{rejection-before}
pub use Rattle.step_acts.specs.Known.{AreKnown, ClientViews, StillKnown, known_in, known_of}
pub use Rattle.step_acts.specs.Left.{dropped_by, locks_left, messages_left, table_left}
pub use Rattle.capstep.specs.OperationRefs.{operation_of}
pub use Rattle.capstep.specs.Replies.{has_list, outcome_reply}
pub use Rattle.capstep.specs.Clients.{session_event}
pub use Rattle.capstep.specs.declared.event.Event.{Event}
pub use Rattle.capstep.specs.declared.outcome.Ended.{Ended}
pub use Rattle.capstep.specs.declared.outcome.Message.{Message}
pub use Rattle.capstep.specs.declared.outcome.Outcome.{Outcome}
pub use Rattle.capstep.specs.declared.reply.Reply.{Reply}
pub use Rattle.capstep.specs.declared.row.Row.{Row}
pub use Rattle.capstep.proofs.Noting.{changes-still}
pub use Rattle.capstep.specs.DueEndings.{DueEndings, HasRoom, HaveOwnNumbers, but_for, is_left, is_of_ticket}
pub use Rattle.capstep.specs.NotedChanges.{view}
pub use Rattle.capstep.specs.Direct.{Awaits, Direct, DirectReply, Gives, IsDirect, Says, Shows, awaited_as, direct, effect, effect_unless, enqueues, found}
pub use Rattle.capstep.specs.Direct.{owned_by, reply_of, says, shown, with_birth, with_flush, with_scene, with_table}
pub use Rattle.capstep.specs.Finish.{finished, is_sized, owed, sizes_owed}
pub use Rattle.capstep.specs.Headline.{AreBounded, IssuesExactly, ServedDenied, is_rejection, move_of}
pub use Rattle.capstep.specs.History.{CoreValue, HasNoStray, IsLegalCore, IsOpening, Replays, core_value}
pub use Rattle.capstep.specs.Judge.{after, arrival_tests, basic_tests, before, first_denied, judged, needs, rejection_by, rejection_of, rejection_reply}
pub use Rattle.capstep.specs.Judge.{revoked_of, waiting_tests}
pub use Rattle.capstep.specs.Messages.{after_messages, first_messages, with_given}
pub use Rattle.capstep.specs.Needs.{Need, need}
pub use Rattle.capstep.specs.Noted.{view_of}
pub use Rattle.capstep.specs.Numbers.{rows_of}
pub use Rattle.capstep.specs.Operations.{change_tests, exclusive, operation_after, operation_before, operation_needs}
pub use Rattle.capstep.specs.Serving.{As_judged, MayEndAs, Without_memory, judged_again, outcome_unless}
pub use Rattle.capstep.specs.Settle.{Began, Gathered, Made, Makes, MakesAll, Served, Settles, ended_in, sized_in}
pub use Rattle.capstep.specs.Shown.{ShowsWhatIsPending}
pub use Rattle.capstep.specs.Sound.{AreGiven, IsSound, IsSoundEntry, NumbersLeft}
pub use Rattle.capstep.specs.State.{State}
pub use Rattle.capstep.specs.Step.{Step, StepBy, all_ended, earlier, state_after, state_at_end}
pub use Rattle.capstep.specs.declared.rejection.Rejection.{Rejection}
pub use Rattle.capstep.specs.declared.rejection.Rejection.TheVariants.{ByTest}
pub use Rattle.policy_view.proofs.Likeness.{like-unseen, shows-tree}
pub use Rattle.policy_view.specs.Changes.{AreChanges}
pub use Rattle.policy_view.specs.Visible.{IsLike}
pub use Rattle.policy_view.specs.declared.change.ViewChange.{ViewChange}
pub use Rattle.lockmachine.proofs.Finding.{contains-filter, filter-contains}
pub use Rattle.lockmachine.proofs.Moving.{is_at, with_lock-each}
pub use Rattle.lockmachine.proofs.PolicyElsewhere.{alike-itself}
pub use Rattle.lockmachine.proofs.Queue.{found_by_number, without_requests_of-stays}
pub use Rattle.lockmachine.specs.Counts.{AreCounted, CountedLocks}
pub use Rattle.lockmachine.specs.Inodes.{CountMap, StateMap, in_sync, lock_in}
pub use Rattle.lockmachine.specs.Locks.{IsLockMap, LockMap, lock_at, next_request, queue_tests, request_at, with_ino, with_lock, with_request}
pub use Rattle.lockmachine.specs.Moves.{IsLockAtRest, LockId, coming_state, first_move, present_state}
pub use Rattle.lockmachine.specs.Policy.{permitted}
pub use Rattle.lockmachine.specs.Requests.{first_for, is_for, is_numbered, part_of_change}
pub use Rattle.lockmachine.specs.declared.moves.Move.TheVariants.{Begin, End, Serve}
pub use Rattle.lockmachine.specs.declared.request.Operation.{Operation}
pub use Rattle.lockmachine.specs.declared.request.Operation.TheVariants.{Alter, Get, Rename, Rmdir, Unlink}
pub use Rattle.lockmachine.specs.declared.request.Request.{Request}
pub use Rattle.lockmachine.specs.Scene.{Scene, plain}
pub use Rattle.lockmachine.specs.declared.scene.KeptScene.{KeptScene}
pub use Rattle.lockmachine.specs.declared.states.InodeLocks.{InodeLocks}
