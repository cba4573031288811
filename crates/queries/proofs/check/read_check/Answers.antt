use Rattle.std.proofs.Common.{refl}
use Rattle.queries.specs.Checks.{check_of, texts_of}
use Rattle.queries.proofs.Marks.{nothing_read}
use Rattle.queries.proofs.check.read_check.Goals as goal

pub returns-in_err-text : goal.returns-in_err-text
returns-in_err-text c = nothing_read (check_of c.args.text.now) texts_of _ c.from_residual.ensures (rw (c.in_err-text.ensures) refl)

pub returns-in_err-text-2 : goal.returns-in_err-text-2
returns-in_err-text-2 c = nothing_read (check_of c.args.text.now) texts_of _ c.from_residual-in_err-text-2.ensures (rw (c.in_ok-text.ensures, c.in_err-text-2.ensures) refl)

pub returns-in_err-text-3 : goal.returns-in_err-text-3
returns-in_err-text-3 c = nothing_read (check_of c.args.text.now) texts_of _ c.from_residual-in_err-text-3.ensures (rw (c.in_ok-text.ensures, c.in_ok-text-2.ensures, c.in_err-text-3.ensures) refl)

pub returns-in_err-text-4 : goal.returns-in_err-text-4
returns-in_err-text-4 c = nothing_read (check_of c.args.text.now) texts_of _ c.from_residual-in_err-text-4.ensures (rw (c.in_ok-text.ensures, c.in_ok-text-2.ensures, c.in_ok-text-3.ensures, c.in_err-text-4.ensures) refl)

pub returns-in_err-text-5 : goal.returns-in_err-text-5
returns-in_err-text-5 c = nothing_read (check_of c.args.text.now) texts_of _ c.from_residual-in_err-text-5.ensures (rw (c.in_ok-text.ensures, c.in_ok-text-2.ensures, c.in_ok-text-3.ensures, c.in_ok-text-4.ensures, c.in_err-text-5.ensures) refl)

pub returns-in_err-text-6 : goal.returns-in_err-text-6
returns-in_err-text-6 c = nothing_read (check_of c.args.text.now) texts_of _ c.from_residual-in_err-text-6.ensures (rw (c.in_ok-text.ensures, c.in_ok-text-2.ensures, c.in_ok-text-3.ensures, c.in_ok-text-4.ensures, c.in_ok-text-5.ensures, c.in_err-text-6.ensures) refl)

pub returns-in_err-text-7 : goal.returns-in_err-text-7
returns-in_err-text-7 c = nothing_read (check_of c.args.text.now) texts_of _ c.from_residual-in_err-text-7.ensures (rw (c.in_ok-text.ensures, c.in_ok-text-2.ensures, c.in_ok-text-3.ensures, c.in_ok-text-4.ensures, c.in_ok-text-5.ensures, c.in_ok-text-6.ensures, c.in_err-text-7.ensures) refl)

pub returns-in_err-inode : goal.returns-in_err-inode
returns-in_err-inode c = nothing_read (check_of c.args.text.now) texts_of _ c.from_residual-in_err-inode.ensures (rw (c.in_ok-text.ensures, c.in_ok-text-2.ensures, c.in_ok-text-3.ensures, c.in_ok-text-4.ensures, c.in_ok-text-5.ensures, c.in_ok-text-6.ensures, c.in_ok-text-7.ensures, c.in_err-inode.ensures) refl)

pub returns : goal.returns
returns c = rw (c.in_ok-text.ensures, c.in_ok-text-2.ensures, c.in_ok-text-3.ensures, c.in_ok-text-4.ensures, c.in_ok-text-5.ensures, c.in_ok-text-6.ensures, c.in_ok-text-7.ensures, c.in_ok-inode.ensures) refl
