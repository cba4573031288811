-- What a number tells of an answer.
use Rattle.std.proofs.Common.{inl, inr, ℕ}
use Rattle.capgrant.specs.declared.answer.Verdict.TheVariants.{Allowed}
use Rattle.capffi.specs.declared.passed.Answer.{Answer}
use Rattle.capffi.specs.Answering.{answer_of}
use Rattle.capffi.specs.ByBlock.{Tells}

-- what is told of an answer is told of all that the answer is
pub tells_more : (One All : Answer → Type 0) (before after : Answer) (reported : ℕ) → ((a : Answer) → One a → All a) → Tells One before after reported → Tells All before after reported
tells_more One All before after reported more tells = elim tells [
  | inl nothing ↦ inl nothing
  | inr (inl written) ↦ inr (inl (written.0, more after written.1))
  | inr (inr allowed) ↦ inr (inr (allowed.0, allowed.1, allowed.2, more (answer_of (Allowed reported)) allowed.3))
]
