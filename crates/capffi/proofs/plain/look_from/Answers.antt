use Rattle.std.proofs.Common.{arith}
use Rattle.capffi.proofs.Masked.{counted_in, few_in, lone_in}
use Rattle.capffi.proofs.plain.look_from.Goals as goal

pub returns-clause-lone : goal.returns-clause-lone
returns-clause-lone c = lone_in 63 c.args.path.now c.args.start c.from.result c.args.is_behind_slash (omega arith) c.requires c.from.ensures

pub returns-clause-count : goal.returns-clause-count
returns-clause-count c = counted_in c.args.path.now c.args.start c.requires

pub returns-clause-few : goal.returns-clause-few
returns-clause-few c = few_in c.args.path.now c.args.start c.requires
