use Rattle.std.proofs.Common.{◌≡◌, ◌-◌}
use Rattle.inotree.specs.Tree.{is_within, lies_below}
use Rattle.inotree.proofs.inodes.Inodes.is_within.Given as goal

abbrev pub invariant-loop : goal.invariant-loop
invariant-loop l = is_within l.self l.ino l.above ≡ lies_below (32 - l.counter) l.self l.at l.above
