use Rattle.std.specs.Prelude.{refl}
use Rattle.tests_core.proofs.ByNumber.{entries-more, get-less, get-more, get-none, len-less, len-more, len-none, none}
use Rattle.tests_core.proofs.worked_cases.kept_lists.values_by_number.Goals as goal

pub returns-clause-in_their_order : goal.returns-clause-in_their_order
returns-clause-in_their_order c = simp (entries-more, none) refl

pub returns-clause-found : goal.returns-clause-found
returns-clause-found c = simp get-more refl

pub returns-clause-in_its_place : goal.returns-clause-in_its_place
returns-clause-in_its_place c = simp (entries-more, none) refl

pub returns-clause-gone : goal.returns-clause-gone
returns-clause-gone c = simp get-less refl

pub returns-clause-two_are_left : goal.returns-clause-two_are_left
returns-clause-two_are_left c = simp (len-less, len-more, len-none, get-more, get-none) refl

pub returns-clause-not_gone_twice : goal.returns-clause-not_gone_twice
returns-clause-not_gone_twice c = simp (len-less, len-more, len-none, get-less, get-more, get-none) refl

pub returns-clause-another : goal.returns-clause-another
returns-clause-another c = simp (entries-more, none) refl

pub returns-clause-another_goes : goal.returns-clause-another_goes
returns-clause-another_goes c = simp (get-less, get-more) refl

pub returns-clause-last_goes : goal.returns-clause-last_goes
returns-clause-last_goes c = simp (len-less, len-more, len-none, get-more, get-none) refl
