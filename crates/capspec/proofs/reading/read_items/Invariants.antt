use Rattle.std.proofs.Common.{length}
use Rattle.capspec.proofs.Words.{IsDrafting}
use Rattle.capspec.proofs.reading.read_items.Given as goal

abbrev pub invariant-loop-draft : goal.invariant-loop-draft
invariant-loop-draft l = IsDrafting l.fn.draft l.text l.rest l.gids_item l.draft

abbrev pub decreases-loop-draft : goal.decreases-loop-draft
decreases-loop-draft l = length l.rest
