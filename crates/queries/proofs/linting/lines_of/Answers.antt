use Rattle.queries.proofs.Looked.{all_reported, one_more}
use Rattle.queries.proofs.linting.lines_of.Goals as goal

pub loop-place-preserved : goal.loop-place-preserved
loop-place-preserved c =
    one_more c.args.shape c.args.findings.now c.args.unread.now c.loop-place.place c.index-findings-place.result _ c.loop-place.lines.items c.print_found.new.lines.items c.loop-place-test.true c.requires c.index-findings-place.is
    c.loop-place.invariant c.in_ok-print_found.ensures

pub returns : goal.returns
returns c = all_reported c.args.shape c.args.findings.now c.args.unread.now c.loop-place.place c.loop-place.lines.items c.loop-place-test.false c.loop-place.invariant
