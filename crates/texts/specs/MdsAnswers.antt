-- The object that says what the MDS of a release answers.
use Rattle.std.specs.Prelude.{◌≡◌, ℕ, Option, Some, None, List, [], ◌∷◌, codes, map}
use Rattle.std.specs.List.{enumerate_from}
use Rattle.serde_json.specs.Data.{Data, array, null, object, string}
use Rattle.serde_json.specs.View.{items_of}
use Rattle.capgrant.specs.Question.{Question}
use Rattle.release_rules.specs.declared.release.Release.{Release}
use Rattle.release_rules.specs.declared.rule.Rule.{Rule}
use Rattle.release_rules.specs.declared.verdict.Verdict.{Verdict}
use Rattle.release_rules.specs.declared.verdict.Verdict.TheVariants.{Allowed, CannotMount, Denied, DependsOnAddress}
use Rattle.release_rules.specs.Releases.{version_of}
use Rattle.release_rules.specs.Rules.{rule_number, rule_word}
use Rattle.texts.specs.declared.mds_asked.MdsAccess.{MdsAccess}
use Rattle.texts.specs.Answers.{AskOfTheSame, IsAskable, failure_value, with_question}
use Rattle.texts.specs.MdsAsked.{mds_access_word}
use Rattle.texts.specs.MdsTold.{HasSmallNumbers}
use Rattle.texts.specs.Values.{Table, json_line, natural, numbered, object_of, or_null, with_all}

-- by which rule the grant of this number fails
abbrev pub mds_rule_value : ℕ × Rule → Data
mds_rule_value failure = failure_value failure.0 (rule_number failure.1) (rule_word failure.1)

-- the grants by number, from 1, with the rule by which each fails
abbrev pub mds_rules_value : List Rule → Data
mds_rules_value rules = array (items_of (map mds_rule_value (enumerate_from 1 rules)))

abbrev pub mds_word : Verdict → List ℕ
mds_word CannotMount = codes "cannot-mount"
mds_word (Allowed grant) = codes "allowed"
mds_word (DependsOnAddress grant) = codes "depends-on-address"
mds_word (Denied rules) = codes "denied"

-- the grant that it is by
abbrev pub grant_value : Verdict → Data
grant_value CannotMount = null
grant_value (Allowed grant) = natural grant
grant_value (DependsOnAddress grant) = natural grant
grant_value (Denied rules) = null

-- the rules that it is by
abbrev pub failures_value : Verdict → Data
failures_value (Denied rules) = mds_rules_value rules
failures_value verdict = null

-- what it is asked for, which MDS it is, what it says, and by which grant the client itself refuses
abbrev pub mds_table : Release → MdsAccess → Verdict → Option ℕ → Table
mds_table release access verdict refused =
    (codes "access", string (mds_access_word access)) ∷ (codes "mds", string (version_of release)) ∷ (codes "verdict", string (mds_word verdict)) ∷ (codes "grant", grant_value verdict) ∷ (codes "rules", failures_value verdict)
    ∷ (codes "refused_by_client", or_null natural refused) ∷ []

-- all of it, of a question whose access is this
abbrev pub mds_value : Option ℕ → Release → MdsAccess → Question → Verdict → Option ℕ → Data
mds_value number release access q verdict refused = object (with_all (mds_table release access verdict refused) (with_question q (numbered number)))

-- as a line
abbrev pub mds_object : Option ℕ → Release → MdsAccess → Question → Verdict → Option ℕ → List ℕ
mds_object number release access q verdict refused = json_line (mds_value number release access q verdict refused)

-- answers that are the same object are the same answer of the same release to the same question
abbrev pub OneMdsAnswer : Type 0
OneMdsAnswer = (m n : Option ℕ) (a b : Release) (x y : MdsAccess) (q r : Question) (v w : Verdict) (refused also : Option ℕ) → HasSmallNumbers x → HasSmallNumbers y → IsAskable q → IsAskable r
    → mds_value m a x q v refused ≡ mds_value n b y r w also → (m ≡ n) × (a ≡ b) × (x ≡ y) × AskOfTheSame q r × (v ≡ w) × (refused ≡ also)
