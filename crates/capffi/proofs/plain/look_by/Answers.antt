use Rattle.capffi.proofs.Masked.{lone_by}
use Rattle.capffi.proofs.plain.look_by.Goals as goal

pub returns : goal.returns
returns g c = lone_by g.row.PIECE c.args.path.now c.args.start c.from.result c.args.is_behind_slash c.requires.some c.requires.piece c.requires.inside c.from.ensures
