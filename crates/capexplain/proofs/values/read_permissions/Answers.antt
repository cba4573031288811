use Rattle.std.proofs.Common.{◌∙◌}
use Rattle.capexplain.proofs.Numerals.{mode_read}
use Rattle.capexplain.proofs.values.read_permissions.Goals as goal

pub returns : goal.returns
returns c = c.ok_or.ensures.value ∙ mode_read c.args.word.now c.read_mode.result c.read_mode.ensures
