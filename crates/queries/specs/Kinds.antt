-- Of which kind is what is told of a check, so that it can be counted: of an answer what is said, to which user and group, where, and by which grant or
-- rules, whatever was asked for; else why the check can't be judged.
use Rattle.std.specs.Prelude.{ℕ, List, [], ◌∷◌, ◌++◌, codes}
use Rattle.std.specs.Fmt.{decimal}
use Rattle.serde_json.specs.Data.{Data, null, string}
use Rattle.capbits.specs.declared.caller.Caller.{Caller}
use Rattle.capgrant.specs.declared.answer.Verdict.{Verdict}
use Rattle.capgrant.specs.declared.answer.Verdict.TheVariants.{Allowed, Denied}
use Rattle.release_rules.specs.Releases.{version_of}
use Rattle.texts.specs.declared.shape.Shape.{Shape}
use Rattle.texts.specs.declared.shape.Shape.TheVariants.{Lines, Objects}
use Rattle.texts.specs.Answers.{rules_value}
use Rattle.texts.specs.Explaining.{path_text, reason_text}
use Rattle.texts.specs.Mds.{mds_outcome, mds_reason}
use Rattle.texts.specs.MdsAnswers.{failures_value, grant_value, mds_word}
use Rattle.texts.specs.Quoting.{quoted}
use Rattle.texts.specs.Standing.{fault_word}
use Rattle.texts.specs.Values.{bytes_value, json_line, natural, object_of}
use Rattle.queries.specs.declared.any_path.AnyPath.{AnyPath}
use Rattle.queries.specs.declared.any_path.AnyPath.TheVariants.{Anywhere, Nowhere, OnAddress, Somewhere}
use Rattle.queries.specs.declared.mds.MdsAnswer.{MdsAnswer}
use Rattle.queries.specs.declared.mds.MdsAsking.{MdsAsking}
use Rattle.queries.specs.declared.question.Question.{Question}
use Rattle.queries.specs.Mds.{not_read_text}
use Rattle.queries.specs.Options.{option_name}
use Rattle.queries.specs.Question.{verdict_on}
use Rattle.queries.specs.Told.{Told, any_grant, any_word}
use Rattle.queries.specs.Told.Told.{answered, bad, formless, judged_by, not_read, pathless, refused, unknown}

-- ---- as a line

-- what is said, and to whom
abbrev pub said_to : List ℕ → Caller → List ℕ
said_to outcome caller = outcome ++ (codes "uid " ++ (decimal caller.uid ++ (codes " gid " ++ (decimal caller.gid ++ codes " "))))

abbrev pub here_outcome : Verdict → List ℕ
here_outcome (Allowed grant) = codes "allowed "
here_outcome (Denied rules) = codes "denied "

abbrev pub any_outcome : AnyPath → List ℕ
any_outcome (Anywhere grant) = codes "allowed "
any_outcome (OnAddress grant) = codes "depends on the address: "
any_outcome (Somewhere grant) = codes "depends on the path: "
any_outcome Nowhere = codes "denied "

abbrev pub any_reason : AnyPath → List ℕ
any_reason (Anywhere grant) = codes " grant " ++ decimal grant
any_reason (OnAddress grant) = codes " grant " ++ decimal grant
any_reason (Somewhere grant) = codes " grant " ++ decimal grant
any_reason Nowhere = []

abbrev pub here_line : Question → List ℕ
here_line q = said_to (here_outcome (verdict_on q)) q.caller ++ (quoted (path_text q.path) ++ reason_text (verdict_on q))

abbrev pub there_line : MdsAsking → MdsAnswer → List ℕ
there_line a answer = said_to (mds_outcome answer.verdict) a.asking.caller ++ (quoted (path_text a.asking.path) ++ mds_reason answer.verdict)

abbrev pub pathless_line : Caller → AnyPath → List ℕ
pathless_line caller any = said_to (any_outcome any) caller ++ (codes "without a path" ++ any_reason any)

abbrev pub kind_line : Told → List ℕ
kind_line (answered q grants) = here_line q
kind_line (judged_by a answer) = there_line a answer
kind_line (pathless caller access any) = pathless_line caller any
kind_line formless = codes "a check that is not as an MDS writes it"
kind_line (unknown mask) = codes "unknown mask " ++ quoted mask
kind_line (refused fault) = codes "grants: " ++ (fault_word fault.kind ++ (codes " at " ++ decimal fault.at))
kind_line (bad option) = codes "bad value of --" ++ option_name option
kind_line (not_read found) = codes "grants: " ++ not_read_text found

-- ---- as an object

abbrev pub here_word : Verdict → List ℕ
here_word (Allowed grant) = codes "allowed"
here_word (Denied rules) = codes "denied"

abbrev pub here_grant : Verdict → Data
here_grant (Allowed grant) = natural grant
here_grant (Denied rules) = null

abbrev pub here_rules : Verdict → Data
here_rules (Allowed grant) = null
here_rules (Denied rules) = rules_value rules

-- who asks, where, and what is said, by this grant or these rules
abbrev pub who_value : Caller → Data → List ℕ → Data → Data → Data
who_value caller path word grant rules =
    object_of
    ((codes "uid", natural caller.uid) ∷ (codes "gid", natural caller.gid) ∷ (codes "path", path) ∷ (codes "verdict", string word) ∷ (codes "grant", grant) ∷ (codes "rules", rules) ∷ [])

abbrev pub why_value : List ℕ → List (List ℕ × Data) → Data
why_value word more = object_of ((codes "fault", string word) ∷ more)

abbrev pub here_value : Question → Data
here_value q = who_value q.caller (bytes_value (path_text q.path)) (here_word (verdict_on q)) (here_grant (verdict_on q)) (here_rules (verdict_on q))

abbrev pub there_value : MdsAsking → MdsAnswer → Data
there_value a answer = who_value a.asking.caller (bytes_value (path_text a.asking.path)) (mds_word answer.verdict) (grant_value answer.verdict) (failures_value answer.verdict)

abbrev pub kind_value : Told → Data
kind_value (answered q grants) = here_value q
kind_value (judged_by a answer) = there_value a answer
kind_value (pathless caller access any) = who_value caller null (any_word any) (any_grant any) null
kind_value formless = why_value (codes "form") []
kind_value (unknown mask) = why_value (codes "mask") ((codes "mask", bytes_value mask) ∷ [])
kind_value (refused fault) = why_value (codes "grants") ((codes "kind", string (fault_word fault.kind)) ∷ (codes "at", natural fault.at) ∷ [])
kind_value (bad option) = why_value (codes "value") ((codes "option", string (option_name option)) ∷ [])
kind_value (not_read found) = why_value (codes "not-read") ((codes "mds", string (version_of found.release)) ∷ (codes "at", natural found.at) ∷ [])

-- ---- as either, with its line feed

abbrev pub kind_in : Shape → Told → List ℕ
kind_in Lines told = kind_line told ++ codes "\n"
kind_in Objects told = json_line (kind_value told)
