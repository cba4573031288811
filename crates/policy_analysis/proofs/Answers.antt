-- What the first grant that is found, or none, says of all callers.
use Rattle.std.proofs.Common.{◌≡◌, ℕ, false, true, Option, Some, None, List}
use Rattle.std.specs.Prelude.{All, is_some}
use Rattle.std.proofs.lemmas.Bool.{false≢true, true≢false}
use Rattle.std.proofs.lemmas.List.Folds.{list_any_none}
use Rattle.capspec.specs.declared.grant.Grant.{Grant}
use Rattle.capgrant.specs.declared.access.Attr.{Attr}
use Rattle.capgrant.specs.declared.rule.Rule.{Rule}
use Rattle.capgrant.specs.Verdict.{allows}
use Rattle.policy_analysis.specs.declared.standing.Standing.TheVariants.{Allowed, Denied, Depends}
use Rattle.policy_analysis.specs.Callers.{Wanted, asked}
use Rattle.policy_analysis.specs.Standing.{Answers, AreReasons, IsFirst, allows_anyway, allows_here, own_attr}
use Rattle.policy_analysis.proofs.Askers.{to_none, to_some}
use Rattle.policy_analysis.proofs.Anyway.{anyway, never, nobody_somehow, not_anyway}
use Rattle.policy_analysis.proofs.Firsts.{first_said}
use Rattle.policy_analysis.proofs.Reasons.{IsDeniedTo}

abbrev pub IsFirstHere : Wanted → Option Attr → List Grant → ℕ → Type 0
IsFirstHere w attr grants n = IsFirst (λ g. allows_here w attr g ≡ true) (λ g. allows_here w attr g ≡ false) grants n

abbrev pub AreNoneHere : Wanted → Option Attr → List Grant → Type 0
AreNoneHere w attr grants = All (λ g. allows_here w attr g ≡ false) grants

pub is_denied : (w : Wanted) (attr : Option Attr) (grants : List Grant) → AreNoneHere w attr grants → IsDeniedTo w attr grants
is_denied w (Some attr) grants none g c = list_any_none (allows (asked w attr c)) grants (λ k d less. to_none w attr _ (none k d less) c)
is_denied w None grants none g c = list_any_none (allows (asked w (own_attr g) c)) grants (λ k d less. never w _ (none k d less) (own_attr g) c)

pub answers_denied : (w : Wanted) (attr : Option Attr) (grants : List Grant) (rules : List Rule) → AreNoneHere w attr grants → AreReasons w attr grants rules → Answers w attr grants (Denied rules)
answers_denied w (Some attr) grants rules none reasons = ((λ k d less. to_none w attr _ (none k d less)), reasons)
answers_denied w None grants rules none reasons = ((λ k d less. never w _ (none k d less)), reasons)

pub answers_known : (w : Wanted) (attr : Option Attr) (grants : List Grant) (n : ℕ) → is_some attr ≡ true → IsFirstHere w attr grants n → Answers w attr grants (Allowed n)
answers_known w (Some attr) grants n some first = first_said grants n (λ g e. to_some w attr g e) (λ g e. to_none w attr g e) first
answers_known w None grants n some first = absurd (false≢true some)

pub answers_anyway : (w : Wanted) (attr : Option Attr) (grants : List Grant) (n : ℕ) → is_some attr ≡ false → IsFirst (λ g. allows_anyway w g ≡ true) (λ g. allows_anyway w g ≡ false) grants n → Answers w attr grants (Allowed n)
answers_anyway w (Some attr) grants n none first = absurd (true≢false none)
answers_anyway w None grants n none first = first_said grants n (λ g e. anyway w g e) (λ g e. not_anyway w g e) first

pub answers_depends : (w : Wanted) (attr : Option Attr) (grants : List Grant) (n : ℕ) → is_some attr ≡ false → IsFirstHere w attr grants n → All (λ g. allows_anyway w g ≡ false) grants → Answers w attr grants (Depends n)
answers_depends w (Some attr) grants n none first not = absurd (true≢false none)
answers_depends w None grants n none first not = (first_said grants n (λ g e. (own_attr g, to_some w (own_attr g) g e)) (λ g e. never w g e) first, nobody_somehow w grants not)
