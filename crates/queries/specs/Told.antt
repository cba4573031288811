-- What is told of a check in the log of an MDS.
use Rattle.std.specs.Prelude.{ℕ, Bool, true, false, Some, List, [], ◌∷◌, ◌++◌, codes}
use Rattle.std.specs.Fmt.{decimal}
use Rattle.serde_json.specs.Data.{Data, null, string}
use Rattle.capbits.specs.declared.caller.Caller.{Caller}
use Rattle.capspec.specs.declared.fault.SpecFault.{SpecFault}
use Rattle.capgrant.specs.Verdict.{is_allowed}
use Rattle.policy_analysis.specs.Left.{left_to_client}
use Rattle.release_rules.specs.declared.verdict.Verdict.{Verdict}
use Rattle.release_rules.specs.declared.verdict.Verdict.TheVariants.{DependsOnAddress}
use Rattle.release_rules.specs.Releases.{version_of}
use Rattle.release_rules.specs.Verdicts.{is_allowed as mds_allows}
use Rattle.texts.specs.declared.mds_asked.MdsAccess.{MdsAccess}
use Rattle.texts.specs.declared.shape.Shape.{Shape}
use Rattle.texts.specs.declared.shape.Shape.TheVariants.{Lines, Objects}
use Rattle.texts.specs.Answers.{answer_value}
use Rattle.texts.specs.MdsAnswers.{mds_value}
use Rattle.texts.specs.MdsAsked.{mds_access_word}
use Rattle.texts.specs.Quoting.{quoted}
use Rattle.texts.specs.Standing.{fault_word, unread_line}
use Rattle.texts.specs.Values.{bytes_value, json_line, natural, numbers_value, object_of}
use Rattle.queries.specs.declared.any_path.AnyPath.{AnyPath}
use Rattle.queries.specs.declared.any_path.AnyPath.TheVariants.{Anywhere, Nowhere, OnAddress, Somewhere}
use Rattle.queries.specs.declared.mds.MdsAnswer.{MdsAnswer}
use Rattle.queries.specs.declared.mds.MdsAsking.{MdsAsking}
use Rattle.queries.specs.declared.mds.NotRead.{NotRead}
use Rattle.queries.specs.declared.options.Opt.{Opt}
use Rattle.queries.specs.declared.question.Question.{Question}
use Rattle.queries.specs.declared.told.Told.{Told as Code}
use Rattle.queries.specs.declared.told.Told.TheVariants as code
use Rattle.queries.specs.AnyPath.{any_path_text, is_anywhere, is_sure}
use Rattle.queries.specs.Mds.{asked_by, lines_by, not_read_text}
use Rattle.queries.specs.Options.{option_name}
use Rattle.queries.specs.Question.{verdict_on}
use Rattle.queries.specs.Remarks.{asked_of, others_on, remarked_answer}

-- the answer to its question, by the text of its grants; what the MDS of a release says to it; what is said of either to this caller where no path
-- is known; that it has another form; an unknown mask; what is wrong with its grants, or with another part; that the release does not read the grants
pub data Told : Type 0 where
  answered : Question → List ℕ → Told
  judged_by : MdsAsking → MdsAnswer → Told
  pathless : Caller → MdsAccess → AnyPath → Told
  formless : Told
  unknown : List ℕ → Told
  refused : SpecFault → Told
  bad : Opt → Told
  not_read : NotRead → Told

-- the same of what the code has
abbrev pub told_of : Code → Told
told_of (code.Answered q grants) = answered q.now grants.now
told_of (code.Judged a answer) = judged_by a.now answer.now
told_of (code.Pathless caller access any) = pathless caller.now access any
told_of code.Formless = formless
told_of (code.Unknown mask) = unknown mask.now
told_of (code.Refused fault) = refused fault
told_of (code.Bad option) = bad option
told_of (code.NotRead found) = not_read found

-- it says that something is allowed
abbrev pub allows : Told → Bool
allows (answered q grants) = is_allowed (verdict_on q)
allows (judged_by a answer) = mds_allows answer.verdict
allows (pathless caller access any) = is_anywhere any
allows told = false

-- it does not hang on where the client is
abbrev pub is_certain : Verdict → Bool
is_certain (DependsOnAddress grant) = false
is_certain verdict = true

-- it says whether something is allowed
abbrev pub is_judgement : Told → Bool
is_judgement (answered q grants) = true
is_judgement (judged_by a answer) = is_certain answer.verdict
is_judgement (pathless caller access any) = is_sure any
is_judgement told = false

-- ---- as lines

-- behind the number of the line of the log
abbrev pub behind : ℕ → List ℕ → List ℕ
behind number lines = decimal number ++ (codes ": " ++ lines)

abbrev pub lines_of : ℕ → Told → List ℕ
lines_of number (answered q grants) = behind number (remarked_answer grants q)
lines_of number (judged_by a answer) = behind number (lines_by a answer)
lines_of number (pathless caller access any) = behind number (codes "no path in this line: " ++ any_path_text access any)
lines_of number formless = behind number (codes "a check that is not as an MDS writes it\n")
lines_of number (unknown mask) = behind number (codes "unknown mask " ++ (quoted mask ++ codes "\n"))
lines_of number (refused fault) = unread_line (decimal number) fault
lines_of number (bad option) = behind number (codes "bad value of --" ++ (option_name option ++ codes "\n"))
lines_of number (not_read found) = behind number (codes "grants: " ++ (not_read_text found ++ codes "\n"))

-- ---- as an object

abbrev pub any_word : AnyPath → List ℕ
any_word (Anywhere grant) = codes "allowed"
any_word (OnAddress grant) = codes "depends-on-address"
any_word (Somewhere grant) = codes "depends-on-path"
any_word Nowhere = codes "denied"

abbrev pub any_grant : AnyPath → Data
any_grant (Anywhere grant) = natural grant
any_grant (OnAddress grant) = natural grant
any_grant (Somewhere grant) = natural grant
any_grant Nowhere = null

-- the number of the line, and why a check can't be judged
abbrev pub fault_value : ℕ → List ℕ → List (List ℕ × Data) → Data
fault_value number word more = object_of ((codes "line", natural number) ∷ (codes "fault", string word) ∷ more)

-- who asks, and what is said at any path
abbrev pub pathless_value : ℕ → Caller → MdsAccess → AnyPath → Data
pathless_value number caller access any =
    object_of
    ((codes "line", natural number)
    ∷ (codes "access", string (mds_access_word access)) ∷ (codes "path", null)
    ∷ (codes "uid", natural caller.uid) ∷ (codes "gid", natural caller.gid) ∷ (codes "groups", numbers_value caller.groups)
    ∷ (codes "verdict", string (any_word any)) ∷ (codes "grant", any_grant any) ∷ [])

abbrev pub object_value : ℕ → Told → Data
object_value number (answered q grants) = answer_value (Some number) (asked_of q) (verdict_on q) (left_to_client (asked_of q) q.grants) (others_on grants q)
object_value number (judged_by a answer) = mds_value (Some number) answer.release a.access (asked_by a.asking) answer.verdict answer.refused
object_value number (pathless caller access any) = pathless_value number caller access any
object_value number formless = fault_value number (codes "form") []
object_value number (unknown mask) = fault_value number (codes "mask") ((codes "mask", bytes_value mask) ∷ [])
object_value number (refused fault) = fault_value number (codes "grants") ((codes "kind", string (fault_word fault.kind)) ∷ (codes "at", natural fault.at) ∷ [])
object_value number (bad option) = fault_value number (codes "value") ((codes "option", string (option_name option)) ∷ [])
object_value number (not_read found) = fault_value number (codes "not-read") ((codes "mds", string (version_of found.release)) ∷ (codes "at", natural found.at) ∷ [])

-- ---- as either

abbrev pub text_in : Shape → ℕ → Told → List ℕ
text_in Lines number told = lines_of number told
text_in Objects number told = json_line (object_value number told)

-- how many lines are no checks
abbrev pub passed_line : ℕ → List ℕ
passed_line passed = codes "lines that are no check of policy: " ++ (decimal passed ++ codes "\n")

abbrev pub passed_value : ℕ → Data
passed_value passed = object_of ((codes "passed_over", natural passed) ∷ [])

abbrev pub passed_in : Shape → ℕ → List ℕ
passed_in Lines passed = passed_line passed
passed_in Objects passed = json_line (passed_value passed)
