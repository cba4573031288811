-- The object that answers a question.
use Rattle.std.specs.Prelude.{◌≡◌, ◌<◌, ◌^◌, ℕ, Bool, true, false, not, Option, List, [], ◌∷◌, codes, map, if◌then◌else◌}
use Rattle.std.specs.List.{enumerate_from}
use Rattle.hex.specs.Hex.{IsBytes}
use Rattle.serde_json.specs.Data.{Data, Members, array, null, object, string}
use Rattle.serde_json.specs.View.{items_of}
use Rattle.capbits.specs.declared.caller.Caller.{Caller}
use Rattle.capgrant.specs.declared.access.Access.{Access}
use Rattle.capgrant.specs.declared.access.Attr.{Attr}
use Rattle.capgrant.specs.declared.answer.Verdict.{Verdict}
use Rattle.capgrant.specs.declared.answer.Verdict.TheVariants.{Allowed, Denied}
use Rattle.capgrant.specs.declared.rule.Rule.{Rule}
use Rattle.capgrant.specs.Access.{access_word}
use Rattle.capgrant.specs.Question.{Question}
use Rattle.capgrant.specs.Rule.{rule_number, rule_word}
use Rattle.release_rules.specs.declared.beside.Otherwise.{Otherwise}
use Rattle.release_rules.specs.declared.beside.Others.{Others}
use Rattle.release_rules.specs.declared.beside.Reason.{Reason}
use Rattle.release_rules.specs.declared.beside.Reason.TheVariants as reasons
use Rattle.texts.specs.Explaining.{path_text}
use Rattle.texts.specs.Lines.{HasNumber}
use Rattle.texts.specs.PartTexts.{mode_text}
use Rattle.texts.specs.Values.{Table, bytes_value, json_line, natural, numbered, numbers_value, object_of, or_null, with_all}

-- ---- what is asked

-- what is asked for, and where the inode is
abbrev pub place_table : Access → List (List ℕ) → List ℕ → Table
place_table access path fs = (codes "access", string (access_word access)) ∷ (codes "path", bytes_value (path_text path)) ∷ (codes "fs", bytes_value fs) ∷ []

-- who asks
abbrev pub caller_table : Caller → Table
caller_table caller = (codes "uid", natural caller.uid) ∷ (codes "gid", natural caller.gid) ∷ (codes "groups", numbers_value caller.groups) ∷ []

-- whose the inode is, and its mode
abbrev pub attr_table : Attr → Table
attr_table attr = (codes "owner", natural attr.uid) ∷ (codes "group", natural attr.gid) ∷ (codes "mode", string (mode_text attr.mode)) ∷ []

-- the members, and those of a question
abbrev pub with_question : Question → Members → Members
with_question q ms = with_all (attr_table q.attr) (with_all (caller_table q.caller) (with_all (place_table q.access q.path q.fs) ms))

-- ---- the verdict

-- the grant of this number fails by the rule of that number and word
abbrev pub failure_value : ℕ → ℕ → List ℕ → Data
failure_value grant rule word = object_of ((codes "grant", natural grant) ∷ (codes "rule", natural rule) ∷ (codes "word", string word) ∷ [])

-- by which rule the grant of this number fails
abbrev pub rule_value : ℕ × Rule → Data
rule_value failure = failure_value failure.0 (rule_number failure.1) (rule_word failure.1)

-- the grants by number, from 1, with the rule by which each fails
abbrev pub rules_value : List Rule → Data
rules_value rules = array (items_of (map rule_value (enumerate_from 1 rules)))

abbrev pub verdict_word : Bool → List ℕ
verdict_word allowed = if allowed then codes "allowed" else codes "denied"

-- this word for it, and the grant that it is by
abbrev pub allowing_table : List ℕ → ℕ → Table
allowing_table word grant = (codes "verdict", string word) ∷ (codes "grant", natural grant) ∷ []

-- by which grant, or by which rules
abbrev pub verdict_table : Verdict → Table
verdict_table (Allowed grant) = allowing_table (codes "allowed") grant
verdict_table (Denied rules) = (codes "verdict", string (codes "denied")) ∷ (codes "rules", rules_value rules) ∷ []

-- ---- what is worth a word beside it

abbrev pub reason_word : Reason → List ℕ
reason_word reasons.OtherFileSystem = codes "other-file-system"
reason_word reasons.ZeroUid = codes "zero-uid"
reason_word reasons.LargeUid = codes "large-uid"
reason_word reasons.PathAsText = codes "path-as-text"
reason_word reasons.AttributeByFlag = codes "attribute-by-flag"
reason_word reasons.ModeByBits = codes "mode-by-bits"
reason_word reasons.GroupsInOrder = codes "groups-in-order"
reason_word reasons.OtherText = codes "other-text"

-- the access makes the difference, and not the grant
abbrev pub is_of_access : Reason → Bool
is_of_access reasons.AttributeByFlag = true
is_of_access reasons.ModeByBits = true
is_of_access reason = false

abbrev pub reason_if : Bool → Reason → Data
reason_if condition reason = if condition then string (reason_word reason) else null

-- what the MDS of a release answers, by which grant, and why
abbrev pub other_value : Otherwise → Data
other_value other =
    object_of ((codes "verdict", string (verdict_word other.allows)) ∷ (codes "grant", natural other.grant)
    ∷ (codes "by_grant", reason_if (not (is_of_access other.reason)) other.reason) ∷ (codes "by_access", reason_if (is_of_access other.reason) other.reason) ∷ [])

-- of each release what it answers, where that is something else
abbrev pub others_table : Others → Table
others_table others = (codes "ceph16", or_null other_value others.pacific) ∷ (codes "ceph18", or_null other_value others.reef) ∷ (codes "ceph20", or_null other_value others.tentacle) ∷ []

-- the grant that leaves the inode's owner, group and mode to the client, and this
abbrev pub remarks_table : Option ℕ → Others → Table
remarks_table left others = (codes "left_to_client", or_null natural left) ∷ others_table others

-- all of it
abbrev pub answer_value : Option ℕ → Question → Verdict → Option ℕ → Others → Data
answer_value number q verdict left others = object (with_all (remarks_table left others) (with_all (verdict_table verdict) (with_question q (numbered number))))

-- as a line
abbrev pub answer_object : Option ℕ → Question → Verdict → Option ℕ → Others → List ℕ
answer_object number q verdict left others = json_line (answer_value number q verdict left others)

-- ---- one answer for an object

-- its names are bytes, its numbers have 32 bits, and its mode has 12
pub record IsAskable (q : Question) : Type 0 where
  pub access : HasNumber q.access
  pub path : IsBytes (path_text q.path)
  pub fs : IsBytes q.fs
  pub mode : q.attr.mode < 2 ^ 12

-- the same caller asks them of the same inode; of two paths the text is
abbrev pub AskOfTheSame : Question → Question → Type 0
AskOfTheSame q r = (path_text q.path ≡ path_text r.path) × (q.fs ≡ r.fs) × (q.caller ≡ r.caller) × (q.attr ≡ r.attr)

-- they ask for the same
abbrev pub AskTheSame : Question → Question → Type 0
AskTheSame q r = (q.access ≡ r.access) × (path_text q.path ≡ path_text r.path) × (q.fs ≡ r.fs) × (q.caller ≡ r.caller) × (q.attr ≡ r.attr)

-- answers that are the same object are the same answer to the same question
abbrev pub OneAnswer : Type 0
OneAnswer = (m n : Option ℕ) (q r : Question) (v w : Verdict) (left also : Option ℕ) (others further : Others) → IsAskable q → IsAskable r
    → answer_value m q v left others ≡ answer_value n r w also further → (m ≡ n) × AskTheSame q r × (v ≡ w) × (left ≡ also) × (others ≡ further)
