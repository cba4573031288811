-- How a fault of a question, or of a text of grants, is told.
use Rattle.std.specs.Prelude.{◌≡◌, ◌⊎◌, ℕ, List, Option, None}
use Rattle.queries.specs.declared.fault.QuestionFault.{QuestionFault}
use Rattle.queries.specs.declared.fault.QuestionFault.TheVariants.{BadValue, Grants}
use Rattle.queries.specs.declared.fault.QuestionFault.TheVariants as asked
use Rattle.queries.specs.declared.options.Opt.TheVariants.{Addr}
use Rattle.release_grants.specs.declared.forms.NoForm.{NoForm as WithoutForm}
use Rattle.release_grants.specs.declared.forms.NoForm.TheVariants as forms
use Rattle.release_rules.specs.declared.release.Release.{Release}
use Rattle.queries.specs.declared.mds.MdsFault.{MdsFault}
use Rattle.queries.specs.declared.mds.MdsFault.TheVariants as mds
use Rattle.queries.specs.declared.comparing.CompareFault.{CompareFault}
use Rattle.queries.specs.declared.comparing.CompareFault.TheVariants as compared
use Rattle.queries.specs.Comparing.{IsFaultOfTexts}
use Rattle.queries.specs.declared.comparing_by.MdsCompareFault.{MdsCompareFault}
use Rattle.queries.specs.declared.comparing_by.MdsCompareFault.TheVariants as compared_by
use Rattle.ceph_input.specs.FsNames.{fs_among}
use Rattle.ceph_input.specs.declared.auth_fault.AuthFault.{AuthFault}
use Rattle.ceph_input.specs.declared.auth_fault.AuthFault.TheVariants as auths
use Rattle.ceph_input.specs.declared.keyring_fault.KeyringFault.{KeyringFault}
use Rattle.ceph_input.specs.declared.keyring_fault.KeyringFault.TheVariants as keyrings
use Rattle.cli_queries.specs.declared.fault.AnswerFault.{AnswerFault}
use Rattle.cli_queries.specs.declared.fault.AnswerFault.TheVariants.{Auth, Compare, Keyring, MdsCompare, NoForm, NoMemory, NotRead, Question, SeveralFileSystems}

-- want of memory stays that; any other fault is passed on as it is
abbrev pub fault_of : QuestionFault → AnswerFault
fault_of (Grants refused) = Question (Grants refused)
fault_of (BadValue option) = Question (BadValue option)
fault_of asked.NoMemory = NoMemory

-- what is told is a fault of which this holds
abbrev pub Tells : (QuestionFault → Type 0) → AnswerFault → Type 0
Tells P fault = (found : QuestionFault) × (fault ≡ fault_of found) × P found

-- the same of grants that a release is to read
abbrev pub mds_fault_of : MdsFault → AnswerFault
mds_fault_of (mds.NotRead found) = NotRead found
mds_fault_of mds.NoMemory = NoMemory

-- why a text has no form that the release reads
abbrev pub form_fault_of : Release → WithoutForm → AnswerFault
form_fault_of release (forms.NotRead unread) = NotRead (record { release = release; at = unread.at })
form_fault_of release (forms.OfGrant grant) = NoForm release grant

-- the same of a keyring
abbrev pub keyring_fault_of : KeyringFault → AnswerFault
keyring_fault_of keyrings.NoEntity = Keyring keyrings.NoEntity
keyring_fault_of keyrings.NoCaps = Keyring keyrings.NoCaps
keyring_fault_of keyrings.NotQuoted = Keyring keyrings.NotQuoted
keyring_fault_of keyrings.NoMemory = NoMemory

-- the same of an auth list
abbrev pub auth_fault_of : AuthFault → AnswerFault
auth_fault_of (auths.NotJson line column) = Auth (auths.NotJson line column)
auth_fault_of auths.NoList = Auth auths.NoList
auth_fault_of (auths.NotAnEntity number) = Auth (auths.NotAnEntity number)
auth_fault_of auths.NoEntity = Auth auths.NoEntity
auth_fault_of auths.NoCaps = Auth auths.NoCaps
auth_fault_of auths.NoMemory = NoMemory

-- the same of two texts that are compared
abbrev pub compare_fault_of : CompareFault → AnswerFault
compare_fault_of (compared.Old refused) = Compare (compared.Old refused)
compare_fault_of (compared.New refused) = Compare (compared.New refused)
compare_fault_of compared.NoMemory = NoMemory

-- the same of two that are compared by the rules of a release; a bad address is told as that of a question
abbrev pub mds_compare_fault_of : MdsCompareFault → AnswerFault
mds_compare_fault_of (compared_by.Old why) = MdsCompare (compared_by.Old why)
mds_compare_fault_of (compared_by.New why) = MdsCompare (compared_by.New why)
mds_compare_fault_of compared_by.BadAddress = Question (BadValue Addr)
mds_compare_fault_of compared_by.NoMemory = NoMemory

-- what is told is why these two texts are not compared
abbrev pub TellsOfTexts : List ℕ → List ℕ → AnswerFault → Type 0
TellsOfTexts before after fault = (found : CompareFault) × (fault ≡ compare_fault_of found) × IsFaultOfTexts before after found

-- why there is no file system of which is asked: none is given of the several that are named, or memory was missing
abbrev pub IsFaultOfNames : List (List ℕ) → Option (List ℕ) → AnswerFault → Type 0
IsFaultOfNames names given fault = ((fault ≡ SeveralFileSystems) × (fs_among names given ≡ None)) ⊎ (fault ≡ NoMemory)
