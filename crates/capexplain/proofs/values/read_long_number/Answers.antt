use Rattle.std.proofs.Common.{◌^◌, ◌∙◌}
use Rattle.capexplain.proofs.Numerals.{number_read}
use Rattle.capexplain.proofs.values.read_long_number.Goals as goal

pub returns : goal.returns
returns c = c.ok_or.ensures.value ∙ number_read (2 ^ 64) c.args.word.now c.read_u64.result c.read_u64.ensures
