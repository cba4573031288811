use Rattle.std.proofs.Common.{rules}
use Rattle.snapshot.proofs.Beginnings.{prefix_length, prefix_whole}
use Rattle.snapshot.proofs.beginning.Beginning.is.Goals as goal

pub returns-then-one : goal.returns-then-one
returns-then-one g c t =
    prefix_whole c.args.self.now c.args.other.now (c.begins-one.ensures.begins (search rules)) (prefix_length c.args.other.now c.args.self.now (c.begins-other_way.ensures.begins t))
