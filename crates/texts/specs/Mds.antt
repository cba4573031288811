-- What the MDS of a release says to a question, as lines.
use Rattle.std.specs.Prelude.{ℕ, Bool, ◌==◌, Option, Some, None, List, [], ◌∷◌, ◌++◌, length, bytes_eq, codes, if◌then◌else◌}
use Rattle.std.specs.Fmt.{decimal}
use Rattle.std.specs.List.{enumerate_from, join_by}
use Rattle.capgrant.specs.declared.answer.Verdict.{Verdict as Answer}
use Rattle.capgrant.specs.Question.{Question}
use Rattle.release_rules.specs.declared.beside.Otherwise.{Otherwise}
use Rattle.release_rules.specs.declared.beside.Others.{Others}
use Rattle.release_rules.specs.declared.beside.Reason.{Reason}
use Rattle.release_rules.specs.declared.beside.Reason.TheVariants.{AttributeByFlag, GroupsInOrder, LargeUid, ModeByBits, OtherFileSystem, OtherText}
use Rattle.release_rules.specs.declared.beside.Reason.TheVariants.{PathAsText, ZeroUid}
use Rattle.release_rules.specs.declared.rule.Rule.{Rule}
use Rattle.release_rules.specs.declared.verdict.Verdict.{Verdict}
use Rattle.release_rules.specs.declared.verdict.Verdict.TheVariants.{Allowed, CannotMount, Denied, DependsOnAddress}
use Rattle.release_rules.specs.Rules.{rule_number, rule_word}
use Rattle.texts.specs.declared.mds_asked.MdsAccess.{MdsAccess}
use Rattle.texts.specs.Explaining.{path_text, verdict_text}
use Rattle.texts.specs.MdsAsked.{mds_access_word}
use Rattle.texts.specs.Quoting.{quoted}
use Rattle.texts.specs.Remarks.{left_line}

-- ---- the answer by a release

-- by which rule the grant of this number fails
abbrev pub mds_failure : ℕ × Rule → List ℕ
mds_failure failure = codes "grant " ++ decimal failure.0 ++ codes " rule " ++ decimal (rule_number failure.1) ++ codes " " ++ rule_word failure.1

-- the grants by number, from 1, with the rule by which each fails
abbrev pub mds_failures : List Rule → List ℕ
mds_failures [] = codes "no grants"
mds_failures (rule ∷ rules) = join_by mds_failure (codes ", ") (enumerate_from 1 (rule ∷ rules))

-- what is said before the access
abbrev pub mds_outcome : Verdict → List ℕ
mds_outcome CannotMount = codes "denied "
mds_outcome (Allowed grant) = codes "allowed "
mds_outcome (DependsOnAddress grant) = codes "depends on the address: "
mds_outcome (Denied rules) = codes "denied "

-- by which grant, or by which rules
abbrev pub mds_reason : Verdict → List ℕ
mds_reason CannotMount = codes " no grant lets the client mount"
mds_reason (Allowed grant) = codes " grant " ++ decimal grant
mds_reason (DependsOnAddress grant) = codes " grant " ++ decimal grant
mds_reason (Denied rules) = codes " " ++ mds_failures rules

-- what the MDS says of the access to the inode with this path
abbrev pub mds_line : MdsAccess → List (List ℕ) → Verdict → List ℕ
mds_line access path verdict = mds_outcome verdict ++ (mds_access_word access ++ (codes " " ++ (quoted (path_text path) ++ mds_reason verdict)))

-- a line for the grant by which the client itself refuses, where it does
abbrev pub refused_line : Option ℕ → List ℕ
refused_line None = []
refused_line (Some grant) = codes "the client itself refuses to change attributes (grant " ++ (decimal grant ++ codes ")\n")

-- both
abbrev pub mds_text : MdsAccess → List (List ℕ) → Verdict → Option ℕ → List ℕ
mds_text access path verdict refused = mds_line access path verdict ++ (codes "\n" ++ refused_line refused)

-- ---- where releases answer otherwise

abbrev pub reason_text : Reason → List ℕ
reason_text OtherFileSystem = codes "a grant for another file system counts there after the mount"
reason_text ZeroUid = codes "uid=0 names nobody there"
reason_text LargeUid = codes "a grant with a uid of 2147483648 or more is for nobody there"
reason_text PathAsText = codes "a slash at the end of the path, or two side by side, count there"
reason_text AttributeByFlag = codes "a quota or a layout asks there for the flag p alone"
reason_text ModeByBits = codes "a change of the mode asks there for the mode bits of write, not for the owner"
reason_text GroupsInOrder = codes "a group of the caller's counts there only where no greater one stands before it"
reason_text OtherText = codes "the text of the grants is read otherwise there"

abbrev pub said_word : Bool → List ℕ
said_word allows = if allows then codes " allows this: " else codes " denies this: "

-- what is said behind the releases that answer so; nothing where one answers as this server does
abbrev pub said : Option Otherwise → List ℕ
said None = []
said (Some other) = said_word other.allows ++ (reason_text other.reason ++ (codes " (grant " ++ (decimal other.grant ++ codes ")\n")))

-- a line for these releases behind a front, where something is said of them
abbrev pub said_line : List ℕ → List ℕ → List ℕ → List ℕ
said_line front releases words = if length words == 0 then [] else front ++ (codes "the MDS of Ceph " ++ (releases ++ words))

-- a line for releases of which this is said and for 20 together, where the same is said of it, or one for those and one for 20
abbrev pub with_last : List ℕ → List ℕ → List ℕ → List ℕ → List ℕ → List ℕ
with_last front together releases words tentacle =
    if bytes_eq words tentacle then said_line front together words else said_line front releases words ++ said_line front (codes "20") tentacle

-- a line for each release, and one for two or three that follow each other and of which the same is said
abbrev pub said_lines : List ℕ → List ℕ → List ℕ → List ℕ → List ℕ
said_lines front pacific reef tentacle =
    if bytes_eq pacific reef
    then (if bytes_eq reef tentacle then said_line front (codes "16, 18 and 20") pacific
    else said_line front (codes "16 and 18") pacific ++ said_line front (codes "20") tentacle)
    else said_line front (codes "16") pacific
    ++ (if bytes_eq reef tentacle then said_line front (codes "18 and 20") reef
    else said_line front (codes "18") reef ++ said_line front (codes "20") tentacle)

-- each behind the front
abbrev pub others_lines : List ℕ → Others → List ℕ
others_lines front others = said_lines front (said others.pacific) (said others.reef) (said others.tentacle)

-- this server's answer, with the path in quotes where it has to be, and behind it what is left to the client and those lines
abbrev pub beside_text : Question → Answer → Option ℕ → Others → List ℕ
beside_text q answer left others =
    verdict_text q.access (quoted (path_text q.path)) answer ++ (codes "\n" ++ (left_line q.attr left ++ others_lines [] others))
