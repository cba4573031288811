use Rattle.std.proofs.Common.{arith}
use Rattle.queries.specs.Reported.{scope_of, state_of}
use Rattle.queries.proofs.LogLines.{begun, line_more}
use Rattle.queries.proofs.LogPieces.{lines_told}
use Rattle.queries.proofs.log_text.print_lines.Goals as goal

pub loop-line-init : goal.loop-line-init
loop-line-init c = begun (scope_of c.args.scope) c.args.text.now c.args.reported.now.items (state_of c.args.state.now) c.requires.few

pub print_line-requires-clause-room : goal.print_line-requires-clause-room
print_line-requires-clause-room c = omega (arith, c.loop-line.invariant.left, c.in-Some.ensures.shorter, c.requires.room)

pub print_line-requires-clause-few : goal.print_line-requires-clause-few
print_line-requires-clause-few c = c.loop-line.invariant.few

pub loop-line-smaller : goal.loop-line-smaller
loop-line-smaller c = c.in-Some.ensures.shorter

pub loop-line-preserved : goal.loop-line-preserved
loop-line-preserved c =
    line_more (scope_of c.args.scope) c.args.text.now c.loop-line.rest.now c.args.reported.now.items c.loop-line.reported.items c.in-Some.line.now c.in-Some.behind.now c.print_line.new.reported.items
    (state_of c.args.state.now) (state_of c.loop-line.state) (state_of c.print_line.new.state) c.loop-line.invariant c.in-Some.ensures.lines c.in-Some.ensures.shorter c.in_ok-print_line.ensures

pub returns : goal.returns
returns c =
    lines_told (scope_of c.args.scope) c.args.text.now c.loop-line.rest.now c.args.reported.now.items c.loop-line.reported.items (state_of c.args.state.now) (state_of c.loop-line.state) c.loop-line.invariant c.in_default.ensures.lines
