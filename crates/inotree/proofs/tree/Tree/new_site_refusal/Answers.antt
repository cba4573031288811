use Rattle.std.proofs.Common.{sym, ◌∙◌, ◌∷◌}
use Rattle.capbits.proofs.Tests.{failing-front}
use Rattle.inotree.specs.Tests.{directory_test, move_tests, name_tests}
use Rattle.inotree.proofs.tree.Tree.new_site_refusal.Goals as goal

pub returns-in-Some : goal.returns-in-Some
returns-in-Some c =
    sym (failing-front (directory_test c.args.self.now c.args.dir.0 ∷ name_tests c.args.self.now c.args.dir.0 c.args.name.now)
    (move_tests c.args.self.now c.args.ino.0 c.args.dir.0) c.in-Some.of_name (sym c.name_refusal.ensures ∙ c.in-Some.is))
