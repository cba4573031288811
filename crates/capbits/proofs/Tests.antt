-- Tests that all pass.
use Rattle.std.proofs.Common.{◌≡◌, Bool, true, false, List, [], ◌∷◌, ◌++◌, Option, Some, None, refl, ap, ◌∙◌}
use Rattle.std.specs.Prelude.{if◌then◌else◌}
use Rattle.capbits.specs.declared.refusal.Refusal.{Refusal}
use Rattle.capbits.specs.Refusal.{Test, first_failing}

-- where none of the tests fails, the first does not, and none of the rest
pub passed-if : (fails : Bool) (refusal : Refusal) (rest : Option Refusal) → (if fails then Some refusal else rest) ≡ None → (fails ≡ false) × (rest ≡ None)
passed-if true refusal rest none = cc
passed-if false refusal rest none = (refl, none)

-- and none of either part
pub passed-both : (one more : List Test) → first_failing (one ++ more) ≡ None → (first_failing one ≡ None) × (first_failing more ≡ None)
passed-both [] more none = (refl, none)
passed-both (t ∷ ts) more none =
    let front = passed-if t.fails t.refusal (first_failing (ts ++ more)) none in
    let rest = passed-both ts more front.1 in
    (ap (λ b. if b then Some t.refusal else first_failing ts) front.0 ∙ rest.0, rest.1)

-- where neither part fails, nor does the whole
pub pass-both : (one more : List Test) → first_failing one ≡ None → first_failing more ≡ None → first_failing (one ++ more) ≡ None
pass-both [] more none rest = rest
pass-both (t ∷ ts) more none rest =
    let front = passed-if t.fails t.refusal (first_failing ts) none in
    ap (λ b. if b then Some t.refusal else first_failing (ts ++ more)) front.0 ∙ pass-both ts more front.1 rest

-- what a test of the front answers, the whole answers
front_by : (fails : Bool) (refusal r : Refusal) (one whole : Option Refusal) → (one ≡ Some r → whole ≡ Some r) → (if fails then Some refusal else one) ≡ Some r → (if fails then Some refusal else whole) ≡ Some r
front_by true refusal r one whole more is = is
front_by false refusal r one whole more is = more is

pub failing-front : (one more : List Test) (r : Refusal) → first_failing one ≡ Some r → first_failing (one ++ more) ≡ Some r
failing-front [] more r is = cc
failing-front (t ∷ ts) more r is = front_by t.fails t.refusal r (first_failing ts) (first_failing (ts ++ more)) (failing-front ts more r) is
