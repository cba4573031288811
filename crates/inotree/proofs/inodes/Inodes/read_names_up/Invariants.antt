use Rattle.std.proofs.Common.{◌≡◌, ◌-◌, ◌++◌, length}
use Rattle.inotree.specs.Tree.{names_up}
use Rattle.inotree.proofs.inodes.Inodes.read_names_up.Given as goal

abbrev pub invariant-loop : goal.invariant-loop
invariant-loop l = (names_up 32 l.self l.ino ≡ l.names ++ names_up (32 - l.counter) l.self l.at) × (length l.names ≡ l.counter)
