use Rattle.std.proofs.Common.{arith}
use Rattle.inotree.proofs.InoSets.{len-beside, listed-beside}
use Rattle.inotree.proofs.nonempty_ino_set.NonEmptyInoSet.numbers.Goals as goal

pub returns-clause-list : goal.returns-clause-list
returns-clause-list c = listed-beside c.self.inside.others c.self.inside.one.0 c.args.self.now c.self.view_is c.self.invariant c.numbers.result c.numbers.ensures.list

pub returns-clause-count : goal.returns-clause-count
returns-clause-count c =
    let all = len-beside c.self.inside.others c.self.inside.one.0 c.args.self.now c.self.view_is c.self.invariant in
    omega (arith, c.numbers.ensures.count, all)
