use Rattle.std.specs.Prelude.{refl}
use Rattle.std.specs.Fmt.{digits}
use Rattle.tests_core.proofs.Reading.{all_flags, reads}
use Rattle.tests_core.proofs.worked_cases.grant_texts.read_and_written.Goals as goal

pub returns-clause-reads : goal.returns-clause-reads
returns-clause-reads c = reads

pub returns-clause-is_written : goal.returns-clause-is_written
unfolding digits
returns-clause-is_written c = refl

pub returns-clause-all_flags : goal.returns-clause-all_flags
returns-clause-all_flags c = all_flags
