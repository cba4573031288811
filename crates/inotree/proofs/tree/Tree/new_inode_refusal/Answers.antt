use Rattle.std.proofs.Common.{sym, ◌∙◌, ◌∷◌}
use Rattle.capbits.proofs.Tests.{failing-front}
use Rattle.inotree.specs.Tests.{directory_test, name_tests, room_tests}
use Rattle.inotree.proofs.tree.Tree.new_inode_refusal.Goals as goal

pub returns-in-Some : goal.returns-in-Some
returns-in-Some c =
    sym (failing-front (directory_test c.args.self.now c.args.dir.0 ∷ name_tests c.args.self.now c.args.dir.0 c.args.name.now)
    (room_tests c.args.self.now c.args.dir.0) c.in-Some.refusal (sym c.name_refusal.ensures ∙ c.in-Some.is))
