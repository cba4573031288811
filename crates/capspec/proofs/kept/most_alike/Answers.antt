use Rattle.std.proofs.Common.{subst, sym}
use Rattle.capspec.specs.SharedPrefix.{IsAlike}
use Rattle.capspec.proofs.Sharing.{alike_at}
use Rattle.capspec.proofs.kept.most_alike.Goals as goal
use Rattle.capspec.proofs.kept.most_alike.Goals.{else-most-bytes, then-most-bytes}

pub loop-other-preserved : goal.loop-other-preserved
loop-other-preserved c = elim c.if-most-bytes.branch [
  | then-most-bytes w ↦
      subst (IsAlike c.args.grants.now c.args.place) (sym w.most-is)
      (alike_at c.args.grants.now c.args.place c.loop-other.other c.count_shared-bytes.result c.index-grants-place.result c.index-grants-other.result c.as_bytes.result.now c.as_bytes-in-loop-other.result.now c.as_bytes.ensures c.as_bytes-in-loop-other.ensures c.count_shared-bytes.ensures)
  | else-most-bytes w ↦ subst (IsAlike c.args.grants.now c.args.place) (sym w.most-is) c.loop-other.invariant
]
