-- What a list of grants says to a question.
use Rattle.std.specs.Prelude.{ℕ, ◌+◌, Bool, true, false, not, ◌&&◌, Option, Some, None, is_none, List, position, filter_map}
use Rattle.std.specs.List.{list_any}
use Rattle.capspec.specs.declared.grant.Grant.{Grant}
use Rattle.capgrant.specs.declared.rule.Rule.{Rule}
use Rattle.capgrant.specs.declared.answer.Verdict.{Verdict}
use Rattle.capgrant.specs.declared.answer.Verdict.TheVariants.{Allowed, Denied}
use Rattle.capgrant.specs.Question.{Question}
use Rattle.capgrant.specs.Failing.{fails_fsname, fails_gids, fails_path, fails_uid, first_failing}

-- no rule fails
abbrev pub allows : Question → Grant → Bool
allows q g = is_none (first_failing q g)

-- none of the rules fails that look at no access
abbrev pub may_allow : Question → Grant → Bool
may_allow q g = not (fails_path q g) && (not (fails_fsname q g) && (not (fails_uid q g) && not (fails_gids q g)))

-- some grant allows
abbrev pub granted : Question → List Grant → Bool
granted q grants = list_any (allows q) grants

-- the rules that the grants fail by first, in the order of the grants
abbrev pub first_failures : Question → List Grant → List Rule
first_failures q grants = filter_map (first_failing q) grants

-- what the place of the first grant that allows, from 0, makes of the verdict
abbrev pub verdict_at : Option ℕ → List Rule → Verdict
verdict_at (Some place) failures = Allowed (place + 1)
verdict_at None failures = Denied failures

-- the number of the first grant that allows, from 1; else the rule that each grant fails by first
unfoldable pub verdict_of : Question → List Grant → Verdict
verdict_of q grants = verdict_at (position (allows q) grants) (first_failures q grants)

-- the verdict is that a grant allows
abbrev pub is_allowed : Verdict → Bool
is_allowed (Allowed grant) = true
is_allowed (Denied rules) = false

-- the fact holds of the rules, where the verdict is a denial
abbrev pub IfDenied : Verdict → (List Rule → Type 0) → Type 0
IfDenied (Allowed grant) P = Unit {0}
IfDenied (Denied rules) P = P rules
