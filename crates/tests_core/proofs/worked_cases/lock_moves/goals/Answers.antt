use Rattle.std.specs.Prelude.{refl}
use Rattle.tests_core.proofs.Scenes.{files-entries, files-get, four-get, three-get}
use Rattle.tests_core.proofs.Unfolded.{steps}
use Rattle.tests_core.proofs.worked_cases.lock_moves.goals.Goals as goal

pub returns-clause-loner_writes_begins : goal.returns-clause-loner_writes_begins
unfolding steps
returns-clause-loner_writes_begins c = simp (files-entries, files-get, four-get, three-get) refl

pub returns-clause-loner_writes_ends : goal.returns-clause-loner_writes_ends
unfolding steps
returns-clause-loner_writes_ends c = simp (files-entries, files-get, four-get, three-get) refl

pub returns-clause-loner_writes_rests : goal.returns-clause-loner_writes_rests
unfolding steps
returns-clause-loner_writes_rests c = simp (files-entries, files-get, four-get, three-get) refl

pub returns-clause-nobody_wants : goal.returns-clause-nobody_wants
unfolding steps
returns-clause-nobody_wants c = simp (files-entries, files-get, four-get, three-get) refl

pub returns-clause-another_is_alone_begins : goal.returns-clause-another_is_alone_begins
unfolding steps
returns-clause-another_is_alone_begins c = simp (files-entries, files-get, four-get, three-get) refl

pub returns-clause-another_is_alone_ends : goal.returns-clause-another_is_alone_ends
unfolding steps
returns-clause-another_is_alone_ends c = simp (files-entries, files-get, four-get, three-get) refl

pub returns-clause-another_is_alone_rests : goal.returns-clause-another_is_alone_rests
unfolding steps
returns-clause-another_is_alone_rests c = simp (files-entries, files-get, four-get, three-get) refl

pub returns-clause-one_of_two_writes_begins : goal.returns-clause-one_of_two_writes_begins
unfolding steps
returns-clause-one_of_two_writes_begins c = simp (files-entries, files-get, four-get, three-get) refl

pub returns-clause-one_of_two_writes_ends : goal.returns-clause-one_of_two_writes_ends
unfolding steps
returns-clause-one_of_two_writes_ends c = simp (files-entries, files-get, four-get, three-get) refl

pub returns-clause-one_of_two_writes_rests : goal.returns-clause-one_of_two_writes_rests
unfolding steps
returns-clause-one_of_two_writes_rests c = simp (files-entries, files-get, four-get, three-get) refl

pub returns-clause-none_of_two_writes_begins : goal.returns-clause-none_of_two_writes_begins
unfolding steps
returns-clause-none_of_two_writes_begins c = simp (files-entries, files-get, four-get, three-get) refl

pub returns-clause-none_of_two_writes_ends : goal.returns-clause-none_of_two_writes_ends
unfolding steps
returns-clause-none_of_two_writes_ends c = simp (files-entries, files-get, four-get, three-get) refl

pub returns-clause-none_of_two_writes_rests : goal.returns-clause-none_of_two_writes_rests
unfolding steps
returns-clause-none_of_two_writes_rests c = simp (files-entries, files-get, four-get, three-get) refl

pub returns-clause-loner_changes_auth : goal.returns-clause-loner_changes_auth
unfolding steps
returns-clause-loner_changes_auth c = simp (files-entries, files-get, four-get, three-get) refl

pub returns-clause-auth_is_changed : goal.returns-clause-auth_is_changed
unfolding steps
returns-clause-auth_is_changed c = simp (files-entries, files-get, four-get, three-get) refl

pub returns-clause-loner_changes_link : goal.returns-clause-loner_changes_link
unfolding steps
returns-clause-loner_changes_link c = simp (files-entries, files-get, four-get, three-get) refl

pub returns-clause-link_is_changed : goal.returns-clause-link_is_changed
unfolding steps
returns-clause-link_is_changed c = simp (files-entries, files-get, four-get, three-get) refl

pub returns-clause-loner_changes_xattr : goal.returns-clause-loner_changes_xattr
unfolding steps
returns-clause-loner_changes_xattr c = simp (files-entries, files-get, four-get, three-get) refl

pub returns-clause-xattr_is_changed : goal.returns-clause-xattr_is_changed
unfolding steps
returns-clause-xattr_is_changed c = simp (files-entries, files-get, four-get, three-get) refl

pub returns-clause-all_are_changed : goal.returns-clause-all_are_changed
unfolding steps
returns-clause-all_are_changed c = simp (files-entries, files-get, four-get, three-get) refl
