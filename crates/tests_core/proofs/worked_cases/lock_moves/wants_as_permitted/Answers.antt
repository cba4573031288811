use Rattle.std.specs.Prelude.{refl}
use Rattle.tests_core.proofs.ByNumber.{entries-more, get-more, get-none, none}
use Rattle.tests_core.proofs.Unfolded.{steps}
use Rattle.tests_core.proofs.worked_cases.lock_moves.wants_as_permitted.Goals as goal

pub returns-clause-nobody : goal.returns-clause-nobody
unfolding steps
returns-clause-nobody c = refl

pub returns-clause-pin : goal.returns-clause-pin
unfolding steps
returns-clause-pin c = simp (get-more, get-none, entries-more, none) refl

pub returns-clause-pin_is_nobodys : goal.returns-clause-pin_is_nobodys
unfolding steps
returns-clause-pin_is_nobodys c = simp (get-more, get-none, entries-more, none) refl

pub returns-clause-one_alone : goal.returns-clause-one_alone
unfolding steps
returns-clause-one_alone c = simp (get-more, get-none, entries-more, none) refl

pub returns-clause-two : goal.returns-clause-two
unfolding steps
returns-clause-two c = simp (get-more, get-none, entries-more, none) refl

pub returns-clause-neither_is_alone : goal.returns-clause-neither_is_alone
unfolding steps
returns-clause-neither_is_alone c = simp (get-more, get-none, entries-more, none) refl

pub returns-clause-alone_beside_a_pin : goal.returns-clause-alone_beside_a_pin
unfolding steps
returns-clause-alone_beside_a_pin c = simp (get-more, get-none, entries-more, none) refl

pub returns-clause-none_may_extend : goal.returns-clause-none_may_extend
unfolding steps
returns-clause-none_may_extend c = simp (get-more, get-none, entries-more, none) refl

pub returns-clause-to_extend_is_no_more : goal.returns-clause-to_extend_is_no_more
unfolding steps
returns-clause-to_extend_is_no_more c = simp (get-more, get-none, entries-more, none) refl

pub returns-clause-a_reader_may_not_write : goal.returns-clause-a_reader_may_not_write
unfolding steps
returns-clause-a_reader_may_not_write c = simp (get-more, get-none, entries-more, none) refl

pub returns-clause-stale_and_another_inode : goal.returns-clause-stale_and_another_inode
unfolding steps
returns-clause-stale_and_another_inode c = simp (get-more, get-none, entries-more, none) refl
