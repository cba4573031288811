use Rattle.std.proofs.Common.{sym}
use Rattle.std.specs.Cmp.{nat_cmp_total}
use Rattle.std.specs.FinMap as map
use Rattle.capbits.proofs.Maps.{change-same}
use Rattle.captable.specs.declared.polls.Poll.{Poll}
use Rattle.captable.specs.Polls.{recounted}
use Rattle.captable.proofs.Polled.{recounted-same}
use Rattle.captable.proofs.polls.count_again.Goals as goal

pub returns-then-was-is : goal.returns-then-was-is
returns-then-was-is c =
    sym (change-same nat_cmp_total map.nat_cmp-IsAntisymmetric c.args.polls.now c.args.client.0 (λ (poll : Poll). record poll { due = recounted c.args.was c.args.is poll.due })
    (recounted-same c.args.was c.args.is c.if-was-is.true))
