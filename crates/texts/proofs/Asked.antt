-- What grants say to a question has numbers that fit.
use Rattle.std.proofs.Common.{◌≡◌, ℕ, ◌+◌, ◌<◌, ◌^◌, Bool, true, false, Option, Some, None, List, [], ◌∷◌, length, refl, arith}
use Rattle.std.specs.Prelude.{IfSome, position, slice_get, if◌then◌else◌}
use Rattle.std.proofs.lemmas.List.Quantifiers.{position-Some}
use Rattle.capspec.specs.declared.grant.Grant.{Grant}
use Rattle.capgrant.specs.Failing.{is_some_and}
use Rattle.capgrant.specs.Question.{Question}
use Rattle.capgrant.specs.Verdict.{allows, first_failures, verdict_at, verdict_of}
use Rattle.policy_analysis.specs.Left.{is_for_all, left_by, left_to_client}
use Rattle.texts.specs.Lines.{HasGrant}

below : (p : Grant → Bool) (grants : List Grant) (i : ℕ) → position p grants ≡ Some i → i < length grants
below p [] i at = absurd (let e : None ≡ Some i = at in cc)
below p (g ∷ grants) i at = (position-Some p (g ∷ grants) i g at).0

-- ---- the verdict, and what is left to the client

pub has_grant : (q : Question) (grants : List Grant) → length grants < 2 ^ 32 → HasGrant (verdict_of q grants)
unfolding verdict_of
has_grant q grants few = by_place (position (allows q) grants) refl
  where
    by_place : (place : Option ℕ) → position (allows q) grants ≡ place → HasGrant (verdict_at place (first_failures q grants))
    by_place None at = tt
    by_place (Some i) at = omega (arith, below (allows q) grants i at, few)

abbrev IsSmallIf : Option ℕ → Type 0
IsSmallIf grant = IfSome grant (λ number. number < 2 ^ 32)

small_if : (test : Bool) (number : ℕ) → number < 2 ^ 32 → IsSmallIf (if test then Some number else None)
small_if true number small = small
small_if false number small = tt

pub has_left : (q : Question) (grants : List Grant) → length grants < 2 ^ 32 → IsSmallIf (left_to_client q grants)
has_left q grants few = by_place (position (allows q) grants) refl
  where
    by_place : (place : Option ℕ) → position (allows q) grants ≡ place → IsSmallIf (left_by grants place)
    by_place None at = tt
    by_place (Some i) at = small_if (is_some_and is_for_all (slice_get grants i)) (i + 1) (omega (arith, below (allows q) grants i at, few))
