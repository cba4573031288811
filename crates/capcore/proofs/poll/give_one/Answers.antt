use Rattle.std.proofs.Common.{ap, ◌∙◌}
use Rattle.capcore.proofs.CommonPieces.{Table}
use Rattle.capcore.proofs.Polling.{caps-given, given-none, recall-given, size-given}
use Rattle.capcore.proofs.poll.give_one.Goals as goal

pub returns-in-Caps : goal.returns-in-Caps
returns-in-Caps c =
    rw c.in-Caps.is
    (c.tell-entry.ensures.told ∙ ap (λ (t : Table). record c.args.table.now { entries = t }) (caps-given c.args.client c.in-Caps.ino c.in-Caps.seq c.in-Caps.caps c.args.table.now.entries c.requires))

pub returns-in-Size : goal.returns-in-Size
returns-in-Size c =
    rw c.in-Size.is
    (c.tell_size.ensures ∙ ap (λ (t : Table). record c.args.table.now { entries = t }) (size-given c.args.client c.in-Size.ino c.in-Size.size c.args.table.now.entries c.requires))

pub returns-in-Recall : goal.returns-in-Recall
returns-in-Recall c =
    rw c.in-Recall.is
    (c.ask.ensures ∙ ap (λ (t : Table). record c.args.table.now { entries = t }) (recall-given c.args.client c.in-Recall.ino c.args.table.now.entries c.requires))

pub returns-in-Ended : goal.returns-in-Ended
returns-in-Ended c = rw c.in-Ended.is (ap (λ (t : Table). record c.args.table.now { entries = t }) (given-none c.args.client c.args.table.now.entries))
