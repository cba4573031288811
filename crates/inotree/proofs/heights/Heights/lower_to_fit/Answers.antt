use Rattle.std.proofs.Common.{◌-◌, sym, ◌∙◌}
use Rattle.inotree.specs.Tree.{depth}
use Rattle.inotree.proofs.Lowering.{file_few}
use Rattle.inotree.proofs.heights.Heights.lower_to_fit.Goals as goal

pub returns-else-is_directory-clause-lowered : goal.returns-else-is_directory-clause-lowered
returns-else-is_directory-clause-lowered c = λ known none.
    file_few c.args.inodes.now c.args.self.now c.args.names.now c.args.ino (32 - depth c.args.inodes.now c.args.dir) (sym c.is_directory.ensures ∙ c.if-is_directory.false) none
