use Rattle.std.proofs.Common.{List, length}
use Rattle.byte_sets.specs.Sets.{is_mark}
use Rattle.capspec.specs.Separated.{AreSeparated}
use Rattle.policy_analysis.specs.Ceph16Syntax.{GrantText, Stands}
use Rattle.policy_analysis.proofs.Grants.{AreLeft}
use Rattle.policy_analysis.proofs.unread.unread_grants.Given as goal

abbrev pub invariant-loop-reported : goal.invariant-loop-reported
invariant-loop-reported l = (texts_of_grants : List GrantText) → AreSeparated is_mark Stands l.text texts_of_grants → AreLeft l.rest l.before l.reported.items texts_of_grants

abbrev pub decreases-loop-reported : goal.decreases-loop-reported
decreases-loop-reported l = length l.rest
