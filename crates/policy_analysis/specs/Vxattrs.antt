-- Whether grants that stand in for those of an MDS let somebody set an attribute there: to do so is what to read is here for an inode's owner.
use Rattle.std.specs.Prelude.{◌≡◌, ℕ, Bool, true, false, not, ◌||◌, ◌==◌, unwrap_or, List, All}
use Rattle.capbits.specs.declared.caller.Caller.{Caller}
use Rattle.capspec.specs.declared.grant.Grant.{Grant}
use Rattle.capgrant.specs.declared.access.Access.TheVariants.{Read, SetVxattr}
use Rattle.capgrant.specs.Failing.{is_some_and}
use Rattle.capgrant.specs.Question.{Question, question}
use Rattle.capgrant.specs.Verdict.{allows, granted}
use Rattle.policy_analysis.specs.declared.witness.Witness.{Witness}
use Rattle.policy_analysis.specs.Asking.{attr_of}
use Rattle.policy_analysis.specs.Comparing.{question_of}

-- the question whether the caller, as owner, may read, where the owner may
abbrev pub as_owner : Question → Question
as_owner q = record q { access = Read; attr = record q.attr { uid = q.caller.uid; mode = 0o600 } }

-- The owner who is asked for, with a number that is no uid and no gid: the grant's user, or one of all, in these groups; and of that inode. The file
-- system is the grant's, or one that no old grant names.
abbrev pub owner_of : ℕ → Grant → List ℕ → Caller
owner_of nobody g groups = record { uid = unwrap_or g.uid nobody; gid = nobody; groups = groups }

abbrev pub asks : List ℕ → ℕ → Grant → Caller → Question
asks free nobody g c = question (unwrap_or g.fsname free) c g.path (attr_of c.uid nobody 0o600) Read

abbrev pub asks_own : List ℕ → ℕ → Grant → List ℕ → Question
asks_own free nobody g groups = asks free nobody g (owner_of nobody g groups)

-- the grant is for root by its uid
abbrev pub is_of_root : Grant → Bool
is_of_root g = is_some_and (λ uid. uid == 0) g.uid

-- the old grants let each owner whom the grant lets
abbrev pub CoversOwnersOf : List Grant → Grant → Type 0
CoversOwnersOf old g = (q : Question) → allows (as_owner q) g ≡ true → granted (as_owner q) old ≡ true

-- the same of each new grant, or of each that is not for root by its uid
abbrev pub CoversOwners : List Grant → List Grant → Bool → Type 0
CoversOwners old new root = All (λ g. (root || not (is_of_root g)) ≡ true → CoversOwnersOf old g) new

-- an attribute that some new grant lets its caller set, and no old one
pub record IsOwnersWitness (old new : List Grant) (w : Witness) : Type 0 where
  pub access : w.access ≡ SetVxattr
  pub allowed : granted (as_owner (question_of w)) new ≡ true
  pub denied : granted (as_owner (question_of w)) old ≡ false

-- it is the question of this one for an attribute
pub record IsFor (w : Witness) (q : Question) : Type 0 where
  pub access : w.access ≡ SetVxattr
  pub asks : as_owner (question_of w) ≡ q
  pub caller : w.caller ≡ q.caller
