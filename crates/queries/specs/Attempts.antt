-- What `who` is asked: an access to an inode, whose owner, group and mode may be given.
use Rattle.std.specs.Prelude.{◌≡◌, ⊤, ℕ, Option, Some, None, List}
use Rattle.capgrant.specs.declared.access.Access.{Access as AnAccess}
use Rattle.capgrant.specs.declared.access.Attr.{Attr}
use Rattle.capspec.specs.Items.{IsNumber}
use Rattle.texts.specs.Access.{IsAccessWord}
use Rattle.policy_analysis.specs.Callers.{Wanted, wanted}
use Rattle.queries.specs.declared.attempt.Attempt.{Attempt}
use Rattle.queries.specs.declared.attempt.AttemptValues.{AttemptValues}
use Rattle.queries.specs.declared.attempt.AttrValues.{AttrValues}
use Rattle.queries.specs.declared.fault.QuestionFault.{QuestionFault}
use Rattle.queries.specs.declared.fault.QuestionFault.TheVariants as faults
use Rattle.queries.specs.declared.options.Opt.{Opt}
use Rattle.queries.specs.declared.options.Opt.TheVariants.{Access, Fs, Group, Mode, Owner, Path}
use Rattle.queries.specs.Values.{ArePathNames, IsFsIf, IsModeText}

-- the values mean this owner, group and mode
pub record IsGivenAttr (v : AttrValues) (attr : Attr) : Type 0 where
  pub owner : IsNumber v.owner.items attr.uid
  pub group : IsNumber v.group.items attr.gid
  pub mode : IsModeText v.mode.items attr.mode

-- they mean these, if they are given
abbrev pub IsAttrIf : Option AttrValues → Option Attr → Type 0
IsAttrIf None attr = attr ≡ None
IsAttrIf (Some v) (Some attr) = IsGivenAttr v attr
IsAttrIf (Some v) None = ⊥

-- the values mean this attempt
pub record IsAttempt (v : AttemptValues) (a : Attempt) : Type 0 where
  pub fs : IsFsIf v.fs a.fs
  pub path : ArePathNames v.path.items a.path
  pub attr : IsAttrIf v.attr a.attr
  pub access : IsAccessWord v.access.items a.access

-- the value of the option means nothing
abbrev pub IsBadAttr : AttrValues → Opt → Type 0
IsBadAttr v Owner = (n : ℕ) → ¬ IsNumber v.owner.items n
IsBadAttr v Group = (n : ℕ) → ¬ IsNumber v.group.items n
IsBadAttr v Mode = (n : ℕ) → ¬ IsModeText v.mode.items n
IsBadAttr v option = ⊥

abbrev pub IsBadAttrIf : Option AttrValues → Opt → Type 0
IsBadAttrIf None option = ⊥
IsBadAttrIf (Some v) option = IsBadAttr v option

abbrev pub IsBad : AttemptValues → Opt → Type 0
IsBad v Fs = (name : Option (List ℕ)) → ¬ IsFsIf v.fs name
IsBad v Path = (names : List (List ℕ)) → ¬ ArePathNames v.path.items names
IsBad v Access = (access : AnAccess) → ¬ IsAccessWord v.access.items access
IsBad v option = IsBadAttrIf v.attr option

-- why the values mean no attempt: one of them is bad, or memory was missing
abbrev pub IsFaultOfAttempt : AttemptValues → QuestionFault → Type 0
IsFaultOfAttempt v (faults.Grants refused) = ⊥
IsFaultOfAttempt v (faults.BadValue option) = IsBad v option
IsFaultOfAttempt v faults.NoMemory = ⊤

-- what the attempt wants, on this file system
abbrev pub wanted_by : Attempt → List ℕ → Wanted
wanted_by a fs = wanted fs a.path a.access
