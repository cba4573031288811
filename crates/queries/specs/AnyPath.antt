-- What grants say to a check whose path is not known.
use Rattle.std.specs.Prelude.{ℕ, ◌+◌, ◌<◌, ◌^◌, Bool, true, false, Option, Some, None, List, [], ◌∷◌, ◌++◌, codes, position, if◌then◌else◌}
use Rattle.std.specs.Fmt.{decimal}
use Rattle.capspec.specs.declared.grant.Grant.{Grant}
use Rattle.capgrant.specs.declared.answer.Verdict.{Verdict}
use Rattle.capgrant.specs.declared.answer.Verdict.TheVariants.{Allowed, Denied}
use Rattle.capgrant.specs.Verdict.{is_allowed}
use Rattle.release_grants.specs.declared.grant.Grant.{Grant as MdsGrant}
use Rattle.release_rules.specs.declared.release.Release.{Release}
use Rattle.release_rules.specs.declared.verdict.Verdict.{Verdict as MdsVerdict}
use Rattle.release_rules.specs.declared.verdict.Verdict.TheVariants as mds
use Rattle.release_rules.specs.Failing.{may_allow_somewhere}
use Rattle.release_rules.specs.Releases.{switches_of}
use Rattle.texts.specs.declared.mds_asked.MdsAccess.{MdsAccess}
use Rattle.texts.specs.MdsAsked.{asked_there, mds_access_word}
use Rattle.queries.specs.declared.any_path.AnyPath.{AnyPath}
use Rattle.queries.specs.declared.any_path.AnyPath.TheVariants.{Anywhere, Nowhere, OnAddress, Somewhere}
use Rattle.queries.specs.declared.mds.MdsAsking.{MdsAsking}
use Rattle.queries.specs.declared.question.Question.{Question}
use Rattle.queries.specs.Mds.{answer_by, mds_question}
use Rattle.queries.specs.Question.{verdict_on}

-- the same question of another path
abbrev pub with_path : Question → List (List ℕ) → Question
with_path q path = record q { path = path }

-- in the directory that the grant is for, some grant allows it
abbrev pub is_allowed_in : Question → Grant → Bool
is_allowed_in q g = is_allowed (verdict_on (with_path q g.path))

-- of these grants, with the first by this number, that of the first in whose directory it is allowed
abbrev pub somewhere : Question → ℕ → List Grant → AnyPath
somewhere q number [] = Nowhere
somewhere q number (g ∷ grants) = if is_allowed_in q g then Somewhere number else somewhere q (number + 1) grants

-- A grant that allows it at the root has no path, so it allows it everywhere; else it is allowed in the directory of a grant, or nowhere.
abbrev pub any_path_here : Verdict → AnyPath → AnyPath
any_path_here (Allowed grant) other = Anywhere grant
any_path_here (Denied rules) other = other

abbrev pub any_path_of : Question → AnyPath
any_path_of q = any_path_here (verdict_on (with_path q [])) (somewhere q 1 q.grants)

-- ---- by a release

-- the first grant that would allow it in its directory, by its place from 0
abbrev pub at_place : Option ℕ → AnyPath
at_place None = Nowhere
at_place (Some place) = Somewhere (place + 1)

-- by what the MDS says at the root: a grant that allows it there has no path; else it hangs on the path of a grant, or no path helps
abbrev pub any_path_there : MdsVerdict → Option ℕ → AnyPath
any_path_there (mds.Allowed grant) place = Anywhere grant
any_path_there (mds.DependsOnAddress grant) place = OnAddress grant
any_path_there (mds.Denied rules) place = at_place place
any_path_there mds.CannotMount place = Nowhere

-- where it is asked at the root
abbrev pub any_path_by : Release → MdsAsking → List MdsGrant → AnyPath
any_path_by release a grants =
    any_path_there (answer_by release a grants).verdict (position (may_allow_somewhere (switches_of release) (mds_question a.asking (asked_there a.access))) grants)

-- ---- what is said

-- it is the same at each path, and wherever the client is
abbrev pub is_sure : AnyPath → Bool
is_sure (Anywhere grant) = true
is_sure (OnAddress grant) = false
is_sure (Somewhere grant) = false
is_sure Nowhere = true

-- it is allowed at each path, wherever the client is
abbrev pub is_anywhere : AnyPath → Bool
is_anywhere (Anywhere grant) = true
is_anywhere any = false

abbrev pub any_path_text : MdsAccess → AnyPath → List ℕ
any_path_text access (Anywhere grant) = codes "allowed " ++ (mds_access_word access ++ (codes " at any path, grant " ++ (decimal grant ++ codes "\n")))
any_path_text access (OnAddress grant) = codes "depends on the address: " ++ (mds_access_word access ++ (codes " grant " ++ (decimal grant ++ codes "\n")))
any_path_text access (Somewhere grant) = codes "depends on it: " ++ (mds_access_word access ++ (codes " grant " ++ (decimal grant ++ codes "\n")))
any_path_text access Nowhere = codes "denied " ++ (mds_access_word access ++ codes " at any path\n")

-- the number of its grant fits
abbrev pub HasSmall : AnyPath → Type 0
HasSmall (Anywhere grant) = grant < 2 ^ 64
HasSmall (OnAddress grant) = grant < 2 ^ 64
HasSmall (Somewhere grant) = grant < 2 ^ 64
HasSmall Nowhere = Unit {0}
