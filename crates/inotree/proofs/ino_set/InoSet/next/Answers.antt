use Rattle.std.proofs.Common.{subst, sym}
use Rattle.std.specs.Ordering.{nat_cmp}
use Rattle.std.specs.declared.ops.Bound.TheVariants.{Included, Unbounded}
use Rattle.std.specs.BTreeSet.{IsKeyRangeOf}
use Rattle.inotree.specs.InoSets.{IsNext}
use Rattle.inotree.proofs.InoSets.{begins-at, least-from, none-from}
use Rattle.inotree.proofs.ino_set.InoSet.next.Goals as goal

pub returns-in_err-number : goal.returns-in_err-number
returns-in_err-number c =
    let range = subst (IsKeyRangeOf nat_cmp (Included c.args.from.0) Unbounded c.self.inside.numbers) c.in_err-number.ensures.steps.0 (c.range.ensures.in_range tt) in
    subst (IsNext c.args.self.now c.args.from.0) (sym c.from_residual.ensures) (none-from c.self.inside.numbers c.args.self.now c.self.view_is (Included c.args.from.0) c.args.from.0 (begins-at c.args.from.0) range)

pub returns : goal.returns
returns c =
    let range = subst (IsKeyRangeOf nat_cmp (Included c.args.from.0) Unbounded c.self.inside.numbers) c.in_ok-number.ensures.steps (c.range.ensures.in_range tt) in
    least-from c.self.inside.numbers c.args.self.now c.self.view_is (Included c.args.from.0) c.args.from.0 (begins-at c.args.from.0) c.in_ok-number.number.now c.next.new.self range
