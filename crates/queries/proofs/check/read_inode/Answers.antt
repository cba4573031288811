use Rattle.std.proofs.Common.{refl}
use Rattle.queries.specs.Checks.{inode_of, inode_texts_of}
use Rattle.queries.proofs.Marks.{nothing_read}
use Rattle.queries.proofs.check.read_inode.Goals as goal

pub returns-in_err-text : goal.returns-in_err-text
returns-in_err-text c = nothing_read (inode_of c.args.text.now) inode_texts_of _ c.from_residual.ensures (rw (c.in_err-text.ensures) refl)

pub returns-in_err-text-2 : goal.returns-in_err-text-2
returns-in_err-text-2 c = nothing_read (inode_of c.args.text.now) inode_texts_of _ c.from_residual-in_err-text-2.ensures (rw (c.in_ok-text.ensures, c.in_err-text-2.ensures) refl)

pub returns-in_err-path : goal.returns-in_err-path
returns-in_err-path c = nothing_read (inode_of c.args.text.now) inode_texts_of _ c.from_residual-in_err-path.ensures (rw (c.in_ok-text.ensures, c.in_ok-text-2.ensures, c.in_err-path.ensures) refl)

pub returns : goal.returns
returns c = rw (c.in_ok-text.ensures, c.in_ok-text-2.ensures, c.in_ok-path.ensures) refl
