-- What the first of some tests that fails answers, by parts of them.
use Rattle.std.proofs.Common.{◌≡◌, Bool, true, false, List, [], ◌∷◌, ◌++◌, Option, Some, None, refl, sym, ap, ◌∙◌}
use Rattle.std.specs.Prelude.{if◌then◌else◌}
use Rattle.std.specs.Option.{option_or}
use Rattle.capbits.specs.declared.refusal.Refusal.{Refusal}
use Rattle.capbits.specs.Refusal.{Test, first_failing}

or_if : (fails : Bool) (refusal : Refusal) (one whole more : Option Refusal) → option_or one more ≡ whole → option_or (if fails then Some refusal else one) more ≡ (if fails then Some refusal else whole)
or_if true refusal one whole more same = refl
or_if false refusal one whole more same = same

-- the answer of one part, or else of the other
first-of : (one more : List Test) → option_or (first_failing one) (first_failing more) ≡ first_failing (one ++ more)
first-of [] more = refl
first-of (t ∷ ts) more = or_if t.fails t.refusal (first_failing ts) (first_failing (ts ++ more)) (first_failing more) (first-of ts more)

pub first-both : (one more : List Test) (a b both : Option Refusal) → both ≡ option_or a b → a ≡ first_failing one → b ≡ first_failing more → both ≡ first_failing (one ++ more)
first-both one more a b both is of_one of_more = is ∙ (λ i. option_or (of_one i) (of_more i)) ∙ first-of one more

-- where none of the one fails, the other answers
pub first-last : (one more : List Test) → first_failing one ≡ None → first_failing more ≡ first_failing (one ++ more)
first-last one more none = ap (λ o. option_or o (first_failing more)) (sym none) ∙ first-of one more
