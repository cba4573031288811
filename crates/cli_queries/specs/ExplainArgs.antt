-- What `explain` is asked, and how it answers.
use Rattle.std.specs.Prelude.{◌≡◌, ◌≢◌, ◌⊎◌, ◌<◌, ◌≤◌, ℕ, Bool, List, length, ◌++◌, Option, Some, None, IfSome, Ok, Err, IsTrue, codes, if◌then◌else◌}
use Rattle.std.specs.Global.{Vec}
use Rattle.std.specs.Io.KnownBytes.{Appends, Keeps}
use Rattle.capgrant.specs.Verdict.{is_allowed}
use Rattle.release_grants.specs.declared.grant.Grant.{Grant}
use Rattle.release_rules.specs.declared.release.Release.{Release}
use Rattle.release_rules.specs.Verdicts.{is_allowed as is_allowed_by}
use Rattle.queries.specs.declared.mds.MdsAnswer.{MdsAnswer}
use Rattle.queries.specs.declared.mds.MdsAsking.{MdsAsking}
use Rattle.queries.specs.declared.question.Question.{Question}
use Rattle.queries.specs.declared.question.Values.{Values}
use Rattle.queries.specs.Mds.{AsksThere, MdsReads, answer_by, lines_by, object_by}
use Rattle.queries.specs.Question.{AsksFor, answer_text, verdict_on}
use Rattle.queries.specs.Remarks.{remarked_answer, remarked_object}
use Rattle.texts.specs.declared.fault.ScriptFault.TheVariants as stops
use Rattle.texts.specs.ScriptLines.{longest_script}
use Rattle.ceph_input.specs.declared.keyring_fault.KeyringFault.{KeyringFault}
use Rattle.ceph_input.specs.declared.keyring_fault.KeyringFault.TheVariants.{NoMemory}
use Rattle.ceph_input.specs.Keyring.{caps_in}
use Rattle.ceph_input.specs.declared.auth_fault.AuthFault.{AuthFault}
use Rattle.ceph_input.specs.Auth.{IsFaultOf, Named, auth_of}
use Rattle.ceph_input.specs.Auth.{caps_in as caps_of}
use Rattle.cli_queries.specs.declared.fault.AnswerFault.{AnswerFault}
use Rattle.cli_queries.specs.declared.fault.AnswerFault.TheVariants.{Unread}
use Rattle.cli_queries.specs.Fault.{auth_fault_of, keyring_fault_of}
use Rattle.cli_queries.specs.declared.explain_args.Form.{Form}
use Rattle.cli_queries.specs.declared.explain_args.Form.TheVariants as forms
use Rattle.cli_queries.specs.declared.explain_args.Source.{Source}
use Rattle.cli_queries.specs.declared.explain_args.Source.TheVariants as sources

-- the text is all of this but a line feed at its end, if there is one
abbrev pub IsWithoutLineFeed : List ℕ → List ℕ → Type 0
IsWithoutLineFeed all text = (all ≡ text ++ codes "\n") ⊎ ((all ≡ text) × ((front : List ℕ) → all ≢ front ++ codes "\n"))

-- a text is an auth list, in which the client has these grants
abbrev pub IsListed : List ℕ → List ℕ → List ℕ → Type 0
IsListed auth client text = (list : List Named) × (auth_of auth ≡ Some (Ok list)) × (caps_of list client ≡ Ok text)

-- why a text gives no grants of the client: it is no auth list, or one without them; or want of memory
abbrev pub IsUnlisted : List ℕ → List ℕ → AnswerFault → Type 0
IsUnlisted auth client fault = (found : AuthFault) × (fault ≡ auth_fault_of found)
    × (IsFaultOf found (auth_of auth) ⊎ ((list : List Named) × (auth_of auth ≡ Some (Ok list)) × (caps_of list client ≡ Err found)))

-- the text of the grants, by the word on the command line and the input; that of a client of a keyring, or of an auth list, is what is
-- found there
abbrev pub IsGrantsText : Source → List ℕ → Option (List ℕ) → List ℕ → Type 0
IsGrantsText sources.Word word input text = text ≡ word
IsGrantsText sources.Input word input text = IfSome input (λ all. (length all ≤ longest_script) × IsWithoutLineFeed all text)
IsGrantsText (sources.Keyring file client) word input text = IfSome input (λ all. (length all ≤ longest_script) × (caps_in all client.items ≡ Ok text))
IsGrantsText (sources.Auth file client) word input text = IfSome input (λ all. (length all ≤ longest_script) × IsListed all client.items text)

-- a read failed, or the input is too long; or memory was missing
abbrev pub IsUnreadInput : AnswerFault → Option (List ℕ) → Bool → Type 0
IsUnreadInput fault input unread = ((fault ≡ Unread stops.ReadFault) × (IsTrue unread ⊎ IfSome input (λ all. longest_script < length all))) ⊎ (fault ≡ Unread stops.NoMemory)

-- the first thing that is missing in a keyring, or want of memory
abbrev pub IsFaultOfKeyring : List ℕ → AnswerFault → Option (List ℕ) → Type 0
IsFaultOfKeyring client fault input = (found : KeyringFault) × (fault ≡ keyring_fault_of found) × ((found ≡ NoMemory) ⊎ IfSome input (λ all. caps_in all client ≡ Err found))

-- why the text can't be had; a read that failed is told
abbrev pub IsUnread : Source → AnswerFault → Option (List ℕ) → Bool → Type 0
IsUnread sources.Word fault input unread = ⊥
IsUnread sources.Input fault input unread = (IsTrue unread → fault ≡ Unread stops.ReadFault) × IsUnreadInput fault input unread
IsUnread (sources.Keyring file client) fault input unread = (IsTrue unread → fault ≡ Unread stops.ReadFault) × (IsUnreadInput fault input unread ⊎ IsFaultOfKeyring client.items fault input)
IsUnread (sources.Auth file client) fault input unread = (IsTrue unread → fault ≡ Unread stops.ReadFault) × (IsUnreadInput fault input unread ⊎ IfSome input (λ all. IsUnlisted all client.items fault))

-- the values, with this text of grants
abbrev pub with_grants : Values → Vec ℕ → Values
with_grants values grants = record values { grants = grants }

-- the question, whose grants were read in this text, was answered, with this status: by its line, by this with all that is worth a word beside
-- it, by the object that says all of it, or by the status alone, 0 where a grant allows and else 3
abbrev pub IsAnswered : Form → List ℕ → Question → ℕ → Option (List ℕ) → Option (List ℕ) → Type 0
IsAnswered forms.Line text q status old new = (status ≡ 0) × Appends old new (answer_text q ++ codes "\n")
IsAnswered forms.More text q status old new = (status ≡ 0) × Appends old new (remarked_answer text q)
IsAnswered forms.Object text q status old new = (status ≡ 0) × Appends old new (remarked_object None text q)
IsAnswered forms.Status text q status old new = (status ≡ (if is_allowed (verdict_on q) then 0 else 3)) × Keeps old new

-- the same with what the MDS of a release says, for which there is no more to be said
abbrev pub IsAnsweredBy : Form → MdsAsking → MdsAnswer → ℕ → Option (List ℕ) → Option (List ℕ) → Type 0
IsAnsweredBy forms.Line a answer status old new = (status ≡ 0) × Appends old new (lines_by a answer)
IsAnsweredBy forms.More a answer status old new = (status ≡ 0) × Appends old new (lines_by a answer)
IsAnsweredBy forms.Object a answer status old new = (status ≡ 0) × Appends old new (object_by None a answer)
IsAnsweredBy forms.Status a answer status old new = (status ≡ (if is_allowed_by answer.verdict then 0 else 3)) × Keeps old new

-- what the values ask was answered in this form, by the rules of this server or of a release
abbrev pub AnswersBy : Option Release → Form → Values → ℕ → Option (List ℕ) → Option (List ℕ) → Type 0
AnswersBy None form v status old new = (asked : Question) × AsksFor v asked × IsAnswered form v.grants.items asked status old new
AnswersBy (Some release) form v status old new =
    (asked : MdsAsking) × (grants : List Grant) × AsksThere v asked × MdsReads release v.grants.items grants × IsAnsweredBy form asked (answer_by release asked grants) status old new
