use Rattle.std.proofs.Common.{◌≡◌, ◌≤◌, List, length, [], refl, ap, ◌∙◌, arith, vec_capacity, vec_len}
use Rattle.std.specs.List.{find}
use Rattle.capstep.proofs.Twice.{both-twice}
use Rattle.capcore.proofs.Begun.{few-earlier}
use Rattle.capcore.proofs.Common.{DueEndings, Ended, State, awaited_as, entry_reply, has_list, is_of_ticket, plain, reply_of}
use Rattle.capcore.proofs.EntryWhole.{no_list-request, request-reply}
use Rattle.capcore.proofs.parts.CoreState.close.Goals.{else-not-is_empty, in-Awaited, in-Done, in-Dropped+in-Ok, in-Requested, then-not-is_empty}
use Rattle.capcore.specs.declared.parts.ReplyDue.TheVariants.{Awaited}
use Rattle.capcore.proofs.parts.CoreState.close.Goals as goal

pub copy_of_reply-recorded-requires : goal.copy_of_reply-recorded-requires
copy_of_reply-recorded-requires c =
    let s : State = record { scene = plain c.args.self.now.scene; messages = [] } in
    ap has_list (c.show_reply-given.ensures.reply s refl c.requires.known) ∙ no_list-request s c.in-Requested.holder c.in-Requested.request

-- those that are left to be told of are no more than all
pub unreachable-requires-in_default-append : goal.unreachable-requires-in_default-append
unreachable-requires-in_default-append c =
    let left : (c.match-reply_due.self.messages ≡ c.args.self.now.messages) × (length c.match-reply_due.output.given.items ≤ length c.args.output.now.given.items) = elim c.match-reply_due.branch [
      | in-Done w ↦ rw (w.self-is, w.output-is) (refl, omega arith)
      | in-Dropped+in-Ok w ↦ rw (w.self-is, w.output-is) (refl, omega arith)
      | in-Requested w ↦ rw (w.self-is, w.output-is) (refl, omega arith)
      | in-Awaited w ↦ rw (w.self-is, w.output-is, w.awaited-given.ensures.left) (refl, few-earlier (Awaited w.in-Awaited.ticket) c.args.output.now.given.items)
    ] in
    let given : c.if-not-is_empty.output.given ≡ c.match-reply_due.output.given = elim c.if-not-is_empty.branch [
      | then-not-is_empty w ↦ rw w.output-is refl
      | else-not-is_empty w ↦ rw w.output-is refl
    ] in
    omega (arith, ap (λ (m : DueEndings). vec_len m) given, ap (λ (m : DueEndings). vec_len m) left.0, ap (λ (m : DueEndings). vec_capacity m) left.0, left.1, c.requires.room, c.in_default-append.ensures.full)

pub returns-clause-reply : goal.returns-clause-reply
returns-clause-reply c = λ ms.
    let s : State = record { scene = plain c.args.self.now.scene; messages = ms } in
    elim c.match-reply_due.branch [
      | in-Done w ↦ rw (w.reply-is, w.in-Done.is) refl
      | in-Dropped+in-Ok w ↦ rw (w.reply-is, w.in-Dropped.is) refl
      | in-Requested w ↦
          let shown : w.show_reply-given.result ≡ reply_of s c.args.output.now.given.items (entry_reply w.in-Requested.holder w.in-Requested.request) =
          w.show_reply-given.ensures.reply s refl c.requires.known ∙ request-reply s c.args.output.now.given.items w.in-Requested.holder w.in-Requested.request in
          rw (w.reply-is, w.in-Requested.is) (both-twice _ _ _ shown (w.copy_of_reply-recorded.ensures ∙ shown))
      | in-Awaited w ↦
          let own = ap (λ (due : List Ended). awaited_as w.in-Awaited.ticket (find (is_of_ticket w.in-Awaited.ticket) due)) c.requires.recorded in
          rw (w.reply-is, w.in-Awaited.is) (both-twice _ _ _ w.awaited-given.ensures.reply (w.awaited-recorded.ensures.reply ∙ own))
    ]
