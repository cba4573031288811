use Rattle.tests_core.proofs.CapTexts.{has_second_bit}
use Rattle.capbits.specs.SetNumbers.{too_large}
use Rattle.std.proofs.Common.{lit≤}
use Rattle.std.specs.Prelude.{refl}
use Rattle.tests_core.proofs.worked_cases.cap_texts.numbers_of_no_set.Goals as goal

pub returns-clause-second_bit : goal.returns-clause-second_bit
returns-clause-second_bit c s = has_second_bit s 2 refl

pub returns-clause-second_bit_and_pin : goal.returns-clause-second_bit_and_pin
returns-clause-second_bit_and_pin c s = has_second_bit s 3 refl

pub returns-clause-all_sixteen : goal.returns-clause-all_sixteen
returns-clause-all_sixteen c s = has_second_bit s 65535 refl

pub returns-clause-seventeenth : goal.returns-clause-seventeenth
returns-clause-seventeenth c s = too_large 65536 (lit≤ tt) s

pub returns-clause-seventeenth_and_pin : goal.returns-clause-seventeenth_and_pin
returns-clause-seventeenth_and_pin c s = too_large 65537 (lit≤ tt) s

pub returns-clause-greatest : goal.returns-clause-greatest
returns-clause-greatest c s = too_large 4294967295 (lit≤ tt) s
