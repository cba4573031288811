use Rattle.std.proofs.Common.{◌∙◌, sym}
use Rattle.capgrant.proofs.Verdicts.{allowed_at}
use Rattle.capffi.proofs.judging.verdict_of.Goals as goal

pub returns-in-Some : goal.returns-in-Some
returns-in-Some c = allowed_at _ _ c.in-Some.place (sym c.first_allowing.ensures.exact ∙ c.in-Some.is)
