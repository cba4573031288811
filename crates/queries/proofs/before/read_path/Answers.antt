use Rattle.std.proofs.Common.{refl}
use Rattle.queries.proofs.before.read_path.Goals as goal

pub returns-in_err-inode : goal.returns-in_err-inode
returns-in_err-inode c = rw (c.from_residual.ensures, c.in_err-inode.ensures) refl

pub returns : goal.returns
returns c = rw c.in_ok-inode.ensures c.front_path.ensures
