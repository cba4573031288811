-- What the grants of one text allow and those of another deny, by the rules of a release.
use Rattle.std.specs.Prelude.{◌≡◌, ◌≤◌, ◌<◌, ℕ, Bool, true, false, ◌||◌, List, Option, option_map, All, IsTrue}
use Rattle.std.specs.List.{list_any}
use Rattle.capbits.specs.declared.caller.Caller.{Caller}
use Rattle.capspec.specs.Paths.{is_name}
use Rattle.capgrant.specs.declared.access.Access.{Access}
use Rattle.capgrant.specs.declared.access.Access.TheVariants.{Chgrp}
use Rattle.capgrant.specs.declared.access.Attr.{Attr}
use Rattle.capgrant.specs.Question.{Question, contains}
use Rattle.release_grants.specs.declared.grant.Grant.{Grant}
use Rattle.release_grants.specs.declared.switches.Switches.{Switches}
use Rattle.release_rules.specs.declared.verdict.Verdict.{Verdict}
use Rattle.release_rules.specs.declared.verdict.Verdict.TheVariants.{Allowed, DependsOnAddress}
use Rattle.release_rules.specs.Asked.{asked_for}
use Rattle.release_grants.specs.Networks.{Address, address_of, in_network, is_unknown}
use Rattle.release_rules.specs.Question.{Question as AskedThere, is_in_groups}
use Rattle.release_rules.specs.Verdicts.{verdict_of}
use Rattle.policy_analysis.specs.Comparing.{is_root, question_of}
use Rattle.policy_analysis.specs.declared.compare_by.Change.{Change}
use Rattle.policy_analysis.specs.declared.compare_by.Terms.{Terms as GivenTerms}
use Rattle.policy_analysis.specs.declared.witness.Witness.{Witness}

-- by what is judged: what the release does its own way, and the address of the client, where it is told
pub record Terms : Type 0 where
  pub switches : Switches
  pub address : Option Address

abbrev pub terms_of : GivenTerms → Terms
terms_of given = record { switches = given.switches; address = option_map address_of given.address }

-- grants, and by what they are judged
pub record Judged : Type 0 where
  pub terms : Terms
  pub grants : List Grant

-- whether a client is in the network of some grant is not known
abbrev pub depend_on_address : Judged → Bool
depend_on_address judged = list_any (λ g. is_unknown (in_network g.network judged.terms.address)) judged.grants

-- an MDS finds each of these groups, as it does where they ascend
abbrev pub AreInOrder : List ℕ → Type 0
AreInOrder groups = (gid : ℕ) → is_in_groups gid groups ≡ contains groups gid

-- It can be asked of an MDS: the path has names, and the caller's groups stand in order.
pub record CanBeAsked (q : Question) : Type 0 where
  pub path : All (λ name. IsTrue (is_name name)) q.path
  pub groups : AreInOrder q.caller.groups

-- a caller of the same user, first group and further groups, in whatever order
pub record IsSameAs (caller other : Caller) : Type 0 where
  pub uid : other.uid ≡ caller.uid
  pub gid : other.gid ≡ caller.gid
  pub groups : (gid : ℕ) → contains other.groups gid ≡ contains caller.groups gid

-- the inode of a question as an MDS is asked it: to change the group is to write, so the owner may write
abbrev pub attr_there : Access → Attr → Attr
attr_there (Chgrp gid) attr = record attr { mode = 0o600 }
attr_there access attr = attr

-- what an MDS is asked for it
abbrev pub put_to : Terms → Question → AskedThere
put_to t q = record { fs = q.fs; caller = q.caller; path = q.path; attr = q.attr; asked = asked_for q.access; address = t.address }

-- what it says
abbrev pub said : Terms → List Grant → Question → Verdict
said t grants q = verdict_of t.switches (put_to t q) grants

-- an answer that depends on the address stands between one that allows and one that denies
abbrev pub rank : Verdict → ℕ
rank (Allowed grant) = 2
rank (DependsOnAddress grant) = 1
rank verdict = 0

-- no question is allowed by the new grants, or depends on the address, of which the old ones say less
abbrev pub CoversThere : Terms → List Grant → List Grant → Type 0
CoversThere t old new = (q : Question) → CanBeAsked q → rank (said t new q) ≤ rank (said t old q)

-- the same of each question of root, or of each of others than root
abbrev pub CoversThereAs : Bool → Terms → List Grant → List Grant → Type 0
CoversThereAs root t old new = (q : Question) → CanBeAsked q → is_root q.caller ≡ root → rank (said t new q) ≤ rank (said t old q)

-- the same of every question whose caller does not pass the test
abbrev pub CoversThereBut : (Caller → Bool) → Terms → List Grant → List Grant → Type 0
CoversThereBut test t old new = (q : Question) → CanBeAsked q → test q.caller ≡ false → rank (said t new q) ≤ rank (said t old q)

-- the number of the grant by which the answer is what it is; none where it is denied
abbrev pub number_of : Verdict → ℕ
number_of (Allowed grant) = grant
number_of (DependsOnAddress grant) = grant
number_of verdict = 0

abbrev pub is_by_address : Verdict → Bool
is_by_address (DependsOnAddress grant) = true
is_by_address verdict = false

-- the same question as an MDS is asked it
pub record IsAskedAs (found asked : Witness) : Type 0 where
  pub fs : asked.fs ≡ found.fs
  pub caller : IsSameAs found.caller asked.caller
  pub order : AreInOrder asked.caller.groups
  pub path : asked.path ≡ found.path
  pub attr : asked.attr ≡ attr_there found.access found.attr
  pub access : asked.access ≡ found.access

-- its question can be asked, and the new grants say more to it than the old ones, by the grant of its number; and whether the address plays a part
pub record IsChange (t : Terms) (old new : List Grant) (change : Change) : Type 0 where
  pub asked : CanBeAsked (question_of change.witness)
  pub more : rank (said t old (question_of change.witness)) < rank (said t new (question_of change.witness))
  pub number : change.witness.grant ≡ number_of (said t new (question_of change.witness))
  pub address : change.by_address ≡ (is_by_address (said t new (question_of change.witness)) || is_by_address (said t old (question_of change.witness)))

-- as an MDS is asked the question that was found, the new grants say more to it
abbrev pub SaysMore : Terms → List Grant → List Grant → Witness → Type 0
SaysMore t old new found = (asked : Witness) → IsAskedAs found asked → CanBeAsked (question_of asked) → rank (said t old (question_of asked)) < rank (said t new (question_of asked))
