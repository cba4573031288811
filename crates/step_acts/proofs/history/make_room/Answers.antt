-- A history that is looked at here is never longer than it may be, so one that is as long is full.
use Rattle.std.proofs.Common.{arith, refl}
use Rattle.step_acts.proofs.history.make_room.Goals as goal

pub returns-then-len-max_rows-clause-full : goal.returns-then-len-max_rows-clause-full
returns-then-len-max_rows-clause-full c = (λ _. omega (arith, c.requires.most, c.len.ensures, c.if-len-max_rows.true), λ _. refl)
