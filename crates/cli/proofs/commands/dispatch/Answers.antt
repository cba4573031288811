use Rattle.std.proofs.Common.{inl, inr, refl}
use Rattle.cli.proofs.Done.{by_answer, by_help}
use Rattle.cli.proofs.commands.dispatch.Goals as goal

pub returns-in-Err-clause-answered : goal.returns-in-Err-clause-answered
returns-in-Err-clause-answered g c = by_help _ _ _ _ _ _ _ c.in-Err.ensures c.show.ensures.status c.show.ensures.help c.show.ensures.done

pub returns-in-Ok-None-clause-answered : goal.returns-in-Ok-None-clause-answered
returns-in-Ok-None-clause-answered g c = by_answer _ _ _ _ _ _ _ _ (inr refl) c.carry_out.ensures

pub returns-in-Ok-Some-clause-answered : goal.returns-in-Ok-Some-clause-answered
returns-in-Ok-Some-clause-answered g c = by_answer _ _ _ _ _ _ _ _ (inl (rw c.in-Ok-Some.field-0-is at c.in-Ok-Some.ensures)) c.carry_out-in-Ok-Some.ensures
