use Rattle.std.proofs.Common.{◌≡◌, length}
use Rattle.capspec.specs.SharedPrefix.{AreAlike}
use Rattle.capspec.proofs.kept.like_each_other.Given as goal

abbrev pub invariant-loop-place : goal.invariant-loop-place
invariant-loop-place l = (length l.alike.items ≡ l.place) × AreAlike l.grants l.alike.items
