use Rattle.std.proofs.Common.{ap, inr, subst, Some, sym, ◌∙◌}
use Rattle.std.specs.Prelude.{Err, Ok}
use Rattle.capstep.specs.declared.event.Event.{Event}
use Rattle.texts.specs.declared.fault.LineFault.{LineFault as AKind}
use Rattle.texts.specs.declared.fault.ScriptFault.TheVariants as stops
use Rattle.capexplain.specs.Events.{said_in}
use Rattle.capstep.specs.Clients.{client_of}
use Rattle.capexplain.specs.Faults.{IsRefused}
use Rattle.capexplain.proofs.SaidLines.{has_said, one_fault, reads_said, tells_no_fault, tells_once}
use Rattle.capexplain.proofs.line.read_line.Goals as goal

pub returns-in-Ok-clause-only : goal.returns-in-Ok-clause-only
returns-in-Ok-clause-only c event reads =
    rw c.client.ensures (inr (ap (λ (e : Event). Ok (Some (client_of e, e))) (tells_once (said_in c.args.text.now) c.in-Ok.event event c.in-Ok.ensures (reads_said c.args.text.now event (sym c.is_skipped.ensures ∙ c.if-is_skipped.false) reads))))

pub returns-in-Ok-clause-reported : goal.returns-in-Ok-clause-reported
returns-in-Ok-clause-reported c kind fault =
    absurd (tells_no_fault (said_in c.args.text.now) c.in-Ok.event kind c.in-Ok.ensures (has_said c.args.text.now kind (sym c.is_skipped.ensures ∙ c.if-is_skipped.false) fault))

pub returns-in-Err-Wrong-clause-only : goal.returns-in-Err-Wrong-clause-only
returns-in-Err-Wrong-clause-only c event reads =
    let here = subst (IsRefused (said_in c.args.text.now)) c.in-Err-Wrong.field-0-is c.in-Err-Wrong.ensures in
    absurd (tells_no_fault (said_in c.args.text.now) event c.in-Err-Wrong.kind (reads_said c.args.text.now event (sym c.is_skipped.ensures ∙ c.if-is_skipped.false) reads) here)

pub returns-in-Err-Wrong-clause-reported : goal.returns-in-Err-Wrong-clause-reported
returns-in-Err-Wrong-clause-reported c kind fault =
    let here = subst (IsRefused (said_in c.args.text.now)) c.in-Err-Wrong.field-0-is c.in-Err-Wrong.ensures in
    ap (λ (k : AKind). Err (stops.LineFault c.args.line k)) (one_fault (said_in c.args.text.now) c.in-Err-Wrong.kind kind here (has_said c.args.text.now kind (sym c.is_skipped.ensures ∙ c.if-is_skipped.false) fault))

pub returns-in-Err-NoMemory-clause-reported : goal.returns-in-Err-NoMemory-clause-reported
returns-in-Err-NoMemory-clause-reported c kind fault =
    let said = subst (IsRefused (said_in c.args.text.now)) c.in-Err-NoMemory.field-0-is c.in-Err-NoMemory.ensures in
    absurd (tells_no_fault (said_in c.args.text.now) said.0 kind said.1 (has_said c.args.text.now kind (sym c.is_skipped.ensures ∙ c.if-is_skipped.false) fault))
