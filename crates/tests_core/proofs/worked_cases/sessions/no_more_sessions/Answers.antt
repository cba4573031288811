use Rattle.std.specs.Prelude.{refl}
use Rattle.tests_core.proofs.ByNumber.{contains-more, get-less, len-less}
use Rattle.tests_core.proofs.worked_cases.sessions.no_more_sessions.Goals as goal

pub returns-clause-one_more : goal.returns-clause-one_more
returns-clause-one_more c table client none apart room = simp (none, apart, room) refl

pub returns-clause-no_more : goal.returns-clause-no_more
returns-clause-no_more c table client none apart full = simp (none, apart, full) refl

pub returns-clause-has_one : goal.returns-clause-has_one
returns-clause-has_one c table client s one apart full = simp (one, apart, full) refl

pub returns-clause-blocked : goal.returns-clause-blocked
returns-clause-blocked c table client one full = simp (one, full) refl

pub returns-clause-room_for_another : goal.returns-clause-room_for_another
returns-clause-room_for_another c table s one none apart full = simp (one, none, apart, full, get-less, len-less, contains-more) refl
