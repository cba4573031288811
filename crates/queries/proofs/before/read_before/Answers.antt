use Rattle.std.proofs.Common.{refl}
use Rattle.queries.specs.Before.{before_of, before_texts_of}
use Rattle.queries.proofs.Marks.{none_read}
use Rattle.queries.proofs.before.read_before.Goals as goal

pub returns-in_err-text : goal.returns-in_err-text
returns-in_err-text c = none_read (before_of c.args.text.now) before_texts_of _ c.from_residual.ensures (rw (c.in_err-text.ensures) refl)

pub returns-in_err-text-2 : goal.returns-in_err-text-2
returns-in_err-text-2 c = none_read (before_of c.args.text.now) before_texts_of _ c.from_residual-in_err-text-2.ensures (rw (c.in_ok-text.ensures, c.in_err-text-2.ensures) refl)

pub returns-in_err-text-3 : goal.returns-in_err-text-3
returns-in_err-text-3 c = none_read (before_of c.args.text.now) before_texts_of _ c.from_residual-in_err-text-3.ensures (rw (c.in_ok-text.ensures, c.in_ok-text-2.ensures, c.in_err-text-3.ensures) refl)

pub returns-in_err-inode : goal.returns-in_err-inode
returns-in_err-inode c = none_read (before_of c.args.text.now) before_texts_of _ c.from_residual-in_err-inode.ensures (rw (c.in_ok-text.ensures, c.in_ok-text-2.ensures, c.in_ok-text-3.ensures, c.in_err-inode.ensures) refl)

pub returns : goal.returns
returns c = rw (c.in_ok-text.ensures, c.in_ok-text-2.ensures, c.in_ok-text-3.ensures, c.in_ok-inode.ensures, c.read_path.ensures) refl
