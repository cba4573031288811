use Rattle.std.proofs.Common.{refl, subst, sym}
use Rattle.queries.specs.declared.fault.QuestionFault.{QuestionFault}
use Rattle.queries.specs.Reported.{TellsFault, scope_of}
use Rattle.queries.specs.Told.Told.{bad, refused}
use Rattle.queries.proofs.LogTold.{fault_told}
use Rattle.queries.proofs.log_text.print_fault.Goals as goal

pub returns-in-Grants : goal.returns-in-Grants
returns-in-Grants c =
    fault_told (scope_of c.args.line.scope) c.args.line.number c.args.reported.now.items c.print_told.new.reported.items c.args.fault (refused c.in-Grants.refused) c.print_told.result
    (subst (λ (fault : QuestionFault). TellsFault fault (refused c.in-Grants.refused)) (sym c.in-Grants.is) refl) c.print_told.ensures.printed c.print_told.ensures.judged

pub returns-in-BadValue : goal.returns-in-BadValue
returns-in-BadValue c =
    fault_told (scope_of c.args.line.scope) c.args.line.number c.args.reported.now.items c.print_told-in-BadValue.new.reported.items c.args.fault (bad c.in-BadValue.option) c.print_told-in-BadValue.result
    (subst (λ (fault : QuestionFault). TellsFault fault (bad c.in-BadValue.option)) (sym c.in-BadValue.is) refl) c.print_told-in-BadValue.ensures.printed c.print_told-in-BadValue.ensures.judged
