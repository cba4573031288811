use Rattle.queries.specs.Counts.{counts_of}
use Rattle.queries.proofs.LineCounts.{all_lines, line_more, none_yet}
use Rattle.queries.proofs.line_counts.LineCounts.note_all.Goals as goal

pub loop-line-init : goal.loop-line-init
loop-line-init c = none_yet c.args.text.now (counts_of c.args.self.now)

pub loop-line-smaller : goal.loop-line-smaller
loop-line-smaller c = c.in-Some.ensures.shorter

pub loop-line-preserved : goal.loop-line-preserved
loop-line-preserved c =
    line_more c.args.text.now c.loop-line.rest.now c.in-Some.line.now c.in-Some.behind.now (counts_of c.args.self.now) (counts_of c.loop-line.self) (counts_of c.note.new.self)
    c.loop-line.invariant c.in-Some.ensures.lines c.in_ok-note.ensures

pub returns : goal.returns
returns c = all_lines c.args.text.now c.loop-line.rest.now (counts_of c.args.self.now) (counts_of c.loop-line.self) c.loop-line.invariant c.in_default.ensures.lines
