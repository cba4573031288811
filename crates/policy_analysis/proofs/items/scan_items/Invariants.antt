use Rattle.std.proofs.Common.{ℕ, ◌≤◌, List, None, length}
use Rattle.std.specs.Option.{option_or}
use Rattle.capspec.specs.Items.{Item}
use Rattle.policy_analysis.specs.Scanning.{HasItems}
use Rattle.policy_analysis.specs.Ceph16Syntax.{first_wrong}
use Rattle.policy_analysis.proofs.Scanned.{IsLeft}
use Rattle.policy_analysis.proofs.items.scan_items.Given as goal

abbrev pub invariant-loop-item : goal.invariant-loop-item
invariant-loop-item l = ((items : List Item) (tail : List ℕ) → HasItems l.text items tail → IsLeft l.rest l.last l.found (option_or l.fn.before (first_wrong None items)) tail) × (length l.rest ≤ length l.text)

abbrev pub decreases-loop-item : goal.decreases-loop-item
decreases-loop-item l = length l.rest
