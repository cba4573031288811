-- What is answered in a line that a path can't forge.
use Rattle.std.specs.Prelude.{◌≡◌, ℕ, ◌<◌, ◌^◌, true, Option, Some, None, List, All, IfSome}
use Rattle.std.specs.List.{list_all}
use Rattle.capgrant.specs.declared.access.Access.{Access}
use Rattle.capgrant.specs.declared.access.Access.TheVariants.{Chgrp, Chown}
use Rattle.capgrant.specs.declared.answer.Verdict.{Verdict}
use Rattle.capgrant.specs.declared.answer.Verdict.TheVariants.{Allowed, Denied}
use Rattle.capspec.specs.declared.fault.SpecFault.{SpecFault}
use Rattle.policy_analysis.specs.declared.standing.Standing.{Standing}
use Rattle.policy_analysis.specs.declared.standing.Standing.TheVariants as standings
use Rattle.policy_analysis.specs.declared.witness.Witness.{Witness}
use Rattle.texts.specs.Comparing.{comparison}
use Rattle.texts.specs.Explaining.{path_text, verdict_text}
use Rattle.texts.specs.Quoting.{is_plain, quoted}
use Rattle.texts.specs.Standing.{standing_line, unread_line}

-- the line that `explain --more` begins with, and a line of `log` behind its number
abbrev pub answer_line : Access → List ℕ → Verdict → List ℕ
answer_line access path verdict = verdict_text access (quoted path) verdict

-- its number has 32 bits, as each access has one
abbrev pub HasNumber : Access → Type 0
HasNumber (Chown uid) = uid < 2 ^ 32
HasNumber (Chgrp gid) = gid < 2 ^ 32
HasNumber access = Unit {0}

abbrev pub HasGrant : Verdict → Type 0
HasGrant (Allowed grant) = grant < 2 ^ 32
HasGrant (Denied rules) = Unit {0}

-- the same of what is said of a client
abbrev pub HasGrantIf : Standing → Type 0
HasGrantIf (standings.Allowed grant) = grant < 2 ^ 32
HasGrantIf (standings.Depends grant) = grant < 2 ^ 32
HasGrantIf (standings.Denied rules) = Unit {0}

-- the line that says what a client may tells its name, what is asked of it and what is said to that; of a path its text counts
abbrev pub OneStanding : Type 0
OneStanding = (c d : List ℕ) (a b : Access) (p q : List (List ℕ)) (s t : Standing) → HasNumber a → HasNumber b → HasGrantIf s → HasGrantIf t
    → standing_line c a p s ≡ standing_line d b q t → (c ≡ d) × (a ≡ b) × (path_text p ≡ path_text q) × (s ≡ t)

-- that of one whose grants can't be read tells its name, what is wrong and where
abbrev pub OneUnread : Type 0
OneUnread = (c d : List ℕ) (f g : SpecFault) → f.at < 2 ^ 64 → g.at < 2 ^ 64 → unread_line c f ≡ unread_line d g → (c ≡ d) × (f ≡ g)

-- ---- comparisons

-- its numbers have 32 bits and its mode 12, and the name of its file system stands without quotes, as each does
pub record IsReported (w : Witness) : Type 0 where
  pub access : HasNumber w.access
  pub fs : list_all is_plain w.fs ≡ true
  pub uid : w.caller.uid < 2 ^ 32
  pub gid : w.caller.gid < 2 ^ 32
  pub groups : All (λ gid. gid < 2 ^ 32) w.caller.groups
  pub owner : w.attr.uid < 2 ^ 32
  pub group : w.attr.gid < 2 ^ 32
  pub mode : w.attr.mode < 2 ^ 12
  pub grant : w.grant < 2 ^ 32

-- the two ask for the same, by the same grant; of their paths the text counts
abbrev pub TellTheSame : Witness → Witness → Type 0
TellTheSame v w = (v.access ≡ w.access) × (path_text v.path.now ≡ path_text w.path.now) × (v.fs ≡ w.fs) × (v.caller ≡ w.caller) × (v.attr ≡ w.attr) × (v.grant ≡ w.grant)

abbrev pub SameIf : Option Witness → Option Witness → Type 0
SameIf None None = Unit {0}
SameIf (Some v) (Some w) = TellTheSame v w
SameIf v w = ⊥

-- lines of a comparison that are the same tell the same gain and the same loss
abbrev pub OneComparison : Type 0
OneComparison = (g h l m : Option Witness) → IfSome g IsReported → IfSome h IsReported → IfSome l IsReported → IfSome m IsReported → comparison g l ≡ comparison h m → SameIf g h × SameIf l m
