-- What a verdict adds to the sum.
use Rattle.std.specs.Prelude.{ℕ, ◌+◌, length}
use Rattle.capgrant.specs.declared.answer.Verdict.{Verdict}
use Rattle.capgrant.specs.declared.answer.Verdict.TheVariants.{Allowed, Denied}

-- the number of the grant that allows, or what no such number is
abbrev pub score : Verdict → ℕ
score (Allowed grant) = grant
score (Denied rules) = 100 + length rules
