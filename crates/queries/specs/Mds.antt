-- What the MDS of a release says to what values ask.
use Rattle.std.specs.Prelude.{◌≡◌, ◌⊎◌, ⊤, codes, ℕ, Bool, true, false, ◌&&◌, Option, None, option_map, Ok, Err, List, ◌++◌, if◌then◌else◌}
use Rattle.std.specs.Fmt.{decimal}
use Rattle.capgrant.specs.Question.{Question as Asked}
use Rattle.capgrant.specs.Question.{question}
use Rattle.release_rules.specs.declared.asked.Asked.{Asked as AskedFor}
use Rattle.release_grants.specs.declared.grant.Grant.{Grant}
use Rattle.release_rules.specs.declared.release.Release.{Release}
use Rattle.release_rules.specs.declared.verdict.Verdict.{Verdict}
use Rattle.release_rules.specs.declared.verdict.Verdict.TheVariants.{CannotMount}
use Rattle.release_rules.specs.Clients.{client_refuses}
use Rattle.release_grants.specs.Networks.{address_of}
use Rattle.release_rules.specs.Question.{Question}
use Rattle.release_grants.specs.Reading.{read_of}
use Rattle.release_rules.specs.Releases.{switches_of, version_of}
use Rattle.release_rules.specs.Verdicts.{verdict_of}
use Rattle.texts.specs.declared.mds_asked.MdsAccess.{MdsAccess}
use Rattle.texts.specs.declared.mds_asked.MdsAccess.TheVariants.{One}
use Rattle.texts.specs.Mds.{mds_text}
use Rattle.texts.specs.MdsAnswers.{mds_object}
use Rattle.texts.specs.MdsAsked.{asked_there, is_checked_by_client}
use Rattle.queries.specs.declared.fault.QuestionFault.{QuestionFault}
use Rattle.queries.specs.declared.mds.MdsAnswer.{MdsAnswer}
use Rattle.queries.specs.declared.mds.MdsFault.{MdsFault}
use Rattle.queries.specs.declared.mds.MdsFault.TheVariants as faults
use Rattle.queries.specs.declared.mds.NotRead.{NotRead}
use Rattle.queries.specs.declared.mds.MdsAsking.{MdsAsking}
use Rattle.queries.specs.declared.question.Asking.{Asking}
use Rattle.queries.specs.declared.question.Values.{Values}
use Rattle.queries.specs.MdsWords.{IsSeveral}
use Rattle.queries.specs.Question.{AsksBy, IsFaultOfAsking}

-- ---- the grants

-- the release reads these grants in the text
abbrev pub MdsReads : Release → List ℕ → List Grant → Type 0
MdsReads release text grants = read_of (switches_of release) text ≡ Ok grants

-- why it reads none: by the text, which is read up to a place; memory may be missing at any time
abbrev pub IsMdsFault : Release → List ℕ → MdsFault → Type 0
IsMdsFault release text (faults.NotRead found) = (found.release ≡ release) × (read_of (switches_of release) text ≡ Err (record { at = found.at }))
IsMdsFault release text faults.NoMemory = ⊤

-- what is said of a text that a release does not read
abbrev pub not_read_text : NotRead → List ℕ
not_read_text found = codes "not read by Ceph " ++ (version_of found.release ++ (codes " at " ++ decimal found.at))

-- ---- what is asked

-- the values ask for several accesses at once; or for one, as this server reads it
abbrev pub AsksThere : Values → MdsAsking → Type 0
AsksThere v a =
    (IsSeveral v.access.items a.access × AsksBy v (codes "read") a.asking)
    ⊎ (((access : MdsAccess) → ¬ IsSeveral v.access.items access) × AsksBy v v.access.items a.asking × (a.access ≡ One a.asking.access))

-- why they ask nothing
abbrev pub IsFaultThere : Values → QuestionFault → Type 0
IsFaultThere v fault =
    ((access : MdsAccess) × IsSeveral v.access.items access × IsFaultOfAsking v (codes "read") fault)
    ⊎ (((access : MdsAccess) → ¬ IsSeveral v.access.items access) × IsFaultOfAsking v v.access.items fault)

-- ---- the answer

-- what is asked of an MDS, which is asked for this
abbrev pub mds_question : Asking → AskedFor → Question
mds_question a asked = record { fs = a.fs; caller = a.caller; path = a.path; attr = a.attr; asked = asked; address = option_map address_of a.address }

abbrev pub mounts : Verdict → Bool
mounts CannotMount = false
mounts verdict = true

-- what the MDS of the release says, and by which grant the client itself refuses, where it comes to ask and does
abbrev pub answer_by : Release → MdsAsking → List Grant → MdsAnswer
answer_by release a grants =
    let switches = switches_of release in
    let asked = mds_question a.asking (asked_there a.access) in
    let verdict = verdict_of switches asked grants in
    record { release = release; verdict = verdict; refused = if mounts verdict && is_checked_by_client a.access then client_refuses switches asked grants else None }

-- as lines
abbrev pub lines_by : MdsAsking → MdsAnswer → List ℕ
lines_by a answer = mds_text a.access a.asking.path answer.verdict answer.refused

-- what is asked, as this server asks it
abbrev pub asked_by : Asking → Asked
asked_by a = question a.fs a.caller a.path a.attr a.access

-- as an object
abbrev pub object_by : Option ℕ → MdsAsking → MdsAnswer → List ℕ
object_by number a answer = mds_object number answer.release a.access (asked_by a.asking) answer.verdict answer.refused
