use Rattle.std.proofs.Common.{◌^◌, ◌∙◌}
use Rattle.capexplain.proofs.Numerals.{number_read}
use Rattle.capexplain.proofs.values.read_number.Goals as goal

pub returns : goal.returns
returns c = c.ok_or.ensures.value ∙ number_read (2 ^ 32) c.args.word.now c.read_u32.result c.read_u32.ensures
