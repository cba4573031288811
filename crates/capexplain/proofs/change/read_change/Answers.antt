use Rattle.std.proofs.Common.{sym}
use Rattle.capexplain.proofs.change.read_change.Goals as goal

pub returns : goal.returns
returns c = λ event. rw (c.in-Some.ensures.cases.0, sym c.in-Some-read_kind.ensures) (c.read_by_kind.ensures event)
