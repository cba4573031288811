use Rattle.std.proofs.Common.{◌≡◌, true, false, refl, sym, ◌∙◌}
use Rattle.std.specs.Prelude.{codes}
use Rattle.queries.specs.Before.{has}
use Rattle.queries.proofs.before.front_path.Goals as goal

pub returns-then-has : goal.returns-then-has
returns-then-has c =
    let other : has (codes " rep@") c.args.inode.now ≡ true = sym c.has.ensures ∙ c.if-has.true in
    rw other refl

pub returns-in_err-path : goal.returns-in_err-path
returns-in_err-path c =
    let own : has (codes " rep@") c.args.inode.now ≡ false = sym c.has.ensures ∙ c.if-has.false in
    rw (c.from_residual.ensures, own, c.in_err-path.ensures) refl

pub returns-then-is_whole : goal.returns-then-is_whole
returns-then-is_whole c =
    let own : has (codes " rep@") c.args.inode.now ≡ false = sym c.has.ensures ∙ c.if-has.false in
    rw (own, c.in_ok-path.ensures, sym c.is_whole.ensures ∙ c.if-is_whole.true) refl

pub returns-else-is_whole : goal.returns-else-is_whole
returns-else-is_whole c =
    let own : has (codes " rep@") c.args.inode.now ≡ false = sym c.has.ensures ∙ c.if-has.false in
    rw (own, c.in_ok-path.ensures, sym c.is_whole.ensures ∙ c.if-is_whole.false) refl
