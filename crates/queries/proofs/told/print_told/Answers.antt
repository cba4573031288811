use Rattle.std.proofs.Common.{Bool, ap, sym, ◌∙◌}
use Rattle.std.specs.Prelude.{◌&&◌}
use Rattle.queries.specs.Reported.{scope_of}
use Rattle.queries.specs.Told.{allows, told_of}
use Rattle.queries.proofs.LogTold.{left_out, told}
use Rattle.queries.proofs.told.print_told.Goals as goal

pub returns-then-is_left_out-clause-printed : goal.returns-then-is_left_out-clause-printed
returns-then-is_left_out-clause-printed c =
    left_out (scope_of c.args.line.scope) c.args.line.number (told_of c.args.told) c.args.reported.now.items
    (ap (λ (b : Bool). b && allows (told_of c.args.told)) (sym c.leaves_out-may_be.ensures) ∙ sym c.in_ok-is_left_out.ensures ∙ c.if-is_left_out.true)

pub returns-clause-printed : goal.returns-clause-printed
returns-clause-printed c =
    told (scope_of c.args.line.scope) c.args.line.number (told_of c.args.told) c.args.reported.now.items c.print_by_scope.new.reported.items
    (ap (λ (b : Bool). b && allows (told_of c.args.told)) (sym c.leaves_out-may_be.ensures) ∙ sym c.in_ok-is_left_out.ensures ∙ c.if-is_left_out.false) c.in_ok-print_by_scope.ensures
