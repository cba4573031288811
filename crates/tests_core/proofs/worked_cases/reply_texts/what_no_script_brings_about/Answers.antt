use Rattle.std.specs.Prelude.{refl}
use Rattle.std.specs.Fmt.{digits}
use Rattle.tests_core.proofs.worked_cases.reply_texts.what_no_script_brings_about.Goals as goal

pub returns-clause-ended : goal.returns-clause-ended
unfolding digits
returns-clause-ended c = refl
