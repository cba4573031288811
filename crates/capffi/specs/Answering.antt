-- Verdicts as numbers.
use Rattle.std.specs.Prelude.{ℕ, List, [], ◌∷◌, length, map, Option, Some, None, slice_get}
use Rattle.capgrant.specs.Rule.{rule_number}
use Rattle.capgrant.specs.declared.answer.Verdict.{Verdict}
use Rattle.capgrant.specs.declared.answer.Verdict.TheVariants.{Allowed, Denied}
use Rattle.capgrant.specs.declared.rule.Rule.{Rule}
use Rattle.capffi.specs.declared.passed.Answer.{Answer}

-- the number of a rule, or 0 where there is none
abbrev pub number_or_none : Option Rule → ℕ
number_or_none None = 0
number_or_none (Some rule) = rule_number rule

-- the number of the rule at a place, or 0
abbrev pub rule_at : List Rule → ℕ → ℕ
rule_at rules place = number_or_none (slice_get rules place)

-- the sixteen places of an answer
abbrev pub places : List ℕ
places = 0 ∷ 1 ∷ 2 ∷ 3 ∷ 4 ∷ 5 ∷ 6 ∷ 7 ∷ 8 ∷ 9 ∷ 10 ∷ 11 ∷ 12 ∷ 13 ∷ 14 ∷ 15 ∷ []

-- the numbers of the rules at these places
abbrev pub rule_numbers : List Rule → List ℕ
rule_numbers rules = map (rule_at rules) places

-- a verdict as numbers
abbrev pub answer_of : Verdict → Answer
answer_of (Allowed grant) = record { grant = grant; count = 0; rules = rule_numbers [] }
answer_of (Denied rules) = record { grant = 0; count = length rules; rules = rule_numbers rules }

-- what stands in the place of an answer where there is none
abbrev pub no_answer : Answer
no_answer = record { grant = 0; count = 0; rules = rule_numbers [] }
