use Rattle.std.proofs.Common.{subst, sym}
use Rattle.snapshot.specs.Rows.{Legal}
use Rattle.snapshot.proofs.Gathering.{legal_none}
use Rattle.snapshot.proofs.recorder.NewRows.named.Goals as goal

pub of-rows-requires-clause-legal : goal.of-rows-requires-clause-legal
of-rows-requires-clause-legal g c =
    let o = g.L.Server.opening in
    subst (Legal o) (sym c.args.self.empty) (record { last = o; is_legal = legal_none o })
