-- A question on the command line, and its answer.
use Rattle.std.specs.Prelude.{◌≡◌, ◌≢◌, ℕ, Option, List, ◌∷◌, ◌++◌, All}
use Rattle.std.specs.declared.net.ip_addr.IpAddr.{IpAddr}
use Rattle.capbits.specs.declared.caller.Caller.{Caller}
use Rattle.capspec.specs.declared.grant.Grant.{Grant}
use Rattle.capspec.specs.Faults.{IsFault}
use Rattle.capspec.specs.Grants.{Reads}
use Rattle.capspec.specs.Items.{IsNumber}
use Rattle.capgrant.specs.declared.access.Access.{Access as AnAccess}
use Rattle.capgrant.specs.declared.access.Attr.{Attr}
use Rattle.capgrant.specs.declared.answer.Verdict.{Verdict}
use Rattle.capgrant.specs.Question.{question}
use Rattle.capgrant.specs.Verdict.{verdict_of}
use Rattle.queries.specs.declared.fault.QuestionFault.{QuestionFault}
use Rattle.queries.specs.declared.fault.QuestionFault.TheVariants as faults
use Rattle.queries.specs.declared.options.Opt.{Opt}
use Rattle.queries.specs.declared.options.Opt.TheVariants.{Access, Addr, Fs, Gid, Grants, Group, Groups, Mode, Owner, Path, Uid}
use Rattle.queries.specs.declared.question.Values.{Values}
use Rattle.queries.specs.declared.question.Asking.{Asking}
use Rattle.queries.specs.declared.question.Question.{Question}
use Rattle.texts.specs.Access.{IsAccessWord}
use Rattle.texts.specs.Explaining.{explain_text}
use Rattle.queries.specs.Options.{all_options, asking_options}
use Rattle.queries.specs.Values.{AreGroupsIf, ArePathNames, IsAddressIf, IsFs, IsModeText}

-- the values ask the question; an address that is given is one, though the rules of this server don't ask for it
pub record AsksFor (v : Values) (q : Question) : Type 0 where
  pub grants : Reads v.grants.items q.grants
  pub fs : IsFs v.fs.items q.fs
  pub uid : IsNumber v.uid.items q.caller.uid
  pub gid : IsNumber v.gid.items q.caller.gid
  pub groups : AreGroupsIf v.groups q.caller.groups
  pub path : ArePathNames v.path.items q.path
  pub owner : IsNumber v.owner.items q.attr.uid
  pub group : IsNumber v.group.items q.attr.gid
  pub mode : IsModeText v.mode.items q.attr.mode
  pub access : IsAccessWord v.access.items q.access
  pub address : (address : Option IpAddr) × IsAddressIf v.addr address

-- they ask this, whatever the grants, where this text stands for the access
pub record AsksBy (v : Values) (access_text : List ℕ) (a : Asking) : Type 0 where
  pub fs : IsFs v.fs.items a.fs
  pub uid : IsNumber v.uid.items a.caller.uid
  pub gid : IsNumber v.gid.items a.caller.gid
  pub groups : AreGroupsIf v.groups a.caller.groups
  pub path : ArePathNames v.path.items a.path
  pub owner : IsNumber v.owner.items a.attr.uid
  pub group : IsNumber v.group.items a.attr.gid
  pub mode : IsModeText v.mode.items a.attr.mode
  pub access : IsAccessWord access_text a.access
  pub address : IsAddressIf v.addr a.address

-- the values name the caller
abbrev pub IsCaller : Values → Caller → Type 0
IsCaller v caller = IsNumber v.uid.items caller.uid × IsNumber v.gid.items caller.gid × AreGroupsIf v.groups caller.groups

-- the values say whose the inode is
abbrev pub IsAttr : Values → Attr → Type 0
IsAttr v attr = IsNumber v.owner.items attr.uid × IsNumber v.group.items attr.gid × IsModeText v.mode.items attr.mode

-- the value of the option means something, where this text stands for the access
abbrev pub IsGood : Values → List ℕ → Opt → Type 0
IsGood v access_text Grants = (grants : List Grant) × Reads v.grants.items grants
IsGood v access_text Fs = (name : List ℕ) × IsFs v.fs.items name
IsGood v access_text Uid = (uid : ℕ) × IsNumber v.uid.items uid
IsGood v access_text Gid = (gid : ℕ) × IsNumber v.gid.items gid
IsGood v access_text Groups = (gids : List ℕ) × AreGroupsIf v.groups gids
IsGood v access_text Path = (names : List (List ℕ)) × ArePathNames v.path.items names
IsGood v access_text Owner = (uid : ℕ) × IsNumber v.owner.items uid
IsGood v access_text Group = (gid : ℕ) × IsNumber v.group.items gid
IsGood v access_text Mode = (mode : ℕ) × IsModeText v.mode.items mode
IsGood v access_text Access = (access : AnAccess) × IsAccessWord access_text access
IsGood v access_text Addr = (address : Option IpAddr) × IsAddressIf v.addr address

-- of these options, its value is the first that means nothing
pub record IsFirstBad (v : Values) (access_text : List ℕ) (options : List Opt) (option : Opt) : Type 0 where
  pub before : List Opt
  pub after : List Opt
  pub order : options ≡ before ++ option ∷ after
  pub good_before : All (IsGood v access_text) before
  pub bad : ¬ IsGood v access_text option

-- a bad value among these options, of which the grants are none
abbrev pub IsBadAmong : Values → List ℕ → List Opt → QuestionFault → Type 0
IsBadAmong v access_text options fault = (option : Opt) × (fault ≡ faults.BadValue option) × (option ≢ Grants) × IsFirstBad v access_text options option

-- why the values got no question: the first of their faults, or want of memory where each of them is good
abbrev pub IsFaultIn : Values → QuestionFault → Type 0
IsFaultIn v (faults.Grants refused) = IsFault v.grants.items refused
IsFaultIn v (faults.BadValue option) = (option ≢ Grants) × IsFirstBad v v.access.items all_options option
IsFaultIn v faults.NoMemory = All (IsGood v v.access.items) all_options

-- why they ask nothing even so: the first fault behind the grants, or want of memory where there is none
abbrev pub IsFaultOfAsking : Values → List ℕ → QuestionFault → Type 0
IsFaultOfAsking v access_text (faults.Grants refused) = ⊥
IsFaultOfAsking v access_text (faults.BadValue option) = IsBadAmong v access_text asking_options (faults.BadValue option)
IsFaultOfAsking v access_text faults.NoMemory = All (IsGood v access_text) asking_options

-- what the grants say to the question
abbrev pub verdict_on : Question → Verdict
verdict_on q = verdict_of (question q.fs q.caller q.path q.attr q.access) q.grants

-- the line that answers the question: what its grants say
abbrev pub answer_text : Question → List ℕ
answer_text q = explain_text q.access q.path (verdict_on q)
