use Rattle.std.specs.Prelude.{refl}
use Rattle.tests_core.proofs.Scenes.{files-entries, files-get, four-get, three-get}
use Rattle.tests_core.proofs.Unfolded.{steps}
use Rattle.tests_core.proofs.worked_cases.lock_moves.nothing_moves.Goals as goal

pub returns-clause-nobody : goal.returns-clause-nobody
unfolding steps
returns-clause-nobody c = simp (files-entries, files-get, four-get, three-get) refl

pub returns-clause-pin_alone : goal.returns-clause-pin_alone
unfolding steps
returns-clause-pin_alone c = simp (files-entries, files-get, four-get, three-get) refl

pub returns-clause-one_reads : goal.returns-clause-one_reads
unfolding steps
returns-clause-one_reads c = simp (files-entries, files-get, four-get, three-get) refl

pub returns-clause-both_read : goal.returns-clause-both_read
unfolding steps
returns-clause-both_read c = simp (files-entries, files-get, four-get, three-get) refl

pub returns-clause-other_parts_are_shared : goal.returns-clause-other_parts_are_shared
unfolding steps
returns-clause-other_parts_are_shared c = simp (files-entries, files-get, four-get, three-get) refl

pub returns-clause-not_permitted : goal.returns-clause-not_permitted
unfolding steps
returns-clause-not_permitted c = simp (files-entries, files-get, four-get, three-get) refl

pub returns-clause-stale_or_not_connected : goal.returns-clause-stale_or_not_connected
unfolding steps
returns-clause-stale_or_not_connected c = simp (files-entries, files-get, four-get, three-get) refl

pub returns-clause-no_inode_or_no_locks : goal.returns-clause-no_inode_or_no_locks
unfolding steps
returns-clause-no_inode_or_no_locks c = simp (files-entries, files-get, four-get, three-get) refl

pub returns-clause-none_of_two_writes : goal.returns-clause-none_of_two_writes
unfolding steps
returns-clause-none_of_two_writes c = simp (files-entries, files-get, four-get, three-get) refl
