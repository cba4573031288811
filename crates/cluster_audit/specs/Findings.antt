-- What a client holds beyond what anybody behind its key is permitted, and why.
use Rattle.std.specs.Prelude.{◌≡◌, ◌≢◌, ◌↔◌, ◌&&◌, Bool, Option, Some, None, List, [], ◌++◌, length, filter_map, IfSome, IsTrue, if◌then◌else◌}
use Rattle.capbits.specs.declared.cap.Cap.{Cap}
use Rattle.capbits.specs.Caps.{Caps, has}
use Rattle.capbits.specs.Sets.{no_caps}
use Rattle.capspec.specs.declared.grant.Grant.{Grant}
use Rattle.capgrant.specs.declared.access.Access.{Access}
use Rattle.capgrant.specs.declared.access.Access.TheVariants.{Read, Write}
use Rattle.capgrant.specs.declared.rule.Rule.{Rule}
use Rattle.capgrant.specs.Permitted.{for_either, for_readers, for_writers}
use Rattle.release_rules.specs.declared.rule.Rule.{Rule as MdsRule}
use Rattle.release_rules.specs.declared.verdict.Verdict.{Verdict}
use Rattle.release_rules.specs.declared.verdict.Verdict.TheVariants as verdicts
use Rattle.policy_analysis.specs.declared.mds_standing.MdsStanding.{MdsStanding}
use Rattle.policy_analysis.specs.Standing.{reason as reason_of}
use Rattle.locktable.specs.Targets.{has_any}
use Rattle.cluster_audit.specs.declared.findings.Finding.{Finding}
use Rattle.cluster_audit.specs.declared.findings.Denial.TheVariants.{Own}
use Rattle.cluster_audit.specs.Callers.{Inode, IsPermittedToSome, wanted_of}

-- the least access that would permit some of these caps; None where no access does
abbrev pub least_access : Caps → Option Access
least_access caps = if has_any caps (for_either ++ for_readers) then Some Read else (if has_any caps for_writers then Some Write else None)

-- some of these caps are those of a writer, whose client is known not to check itself: from Ceph 18 on no MDS judges what it writes back by them
abbrev pub is_unjudged : Bool → Caps → Bool
is_unjudged unchecked caps = unchecked && has_any caps for_writers

abbrev pub rules_of : Verdict → Option (List MdsRule)
rules_of (verdicts.Denied rules) = Some rules
rules_of verdicts.CannotMount = None
rules_of verdict = Some []

-- the rules of a release by which each grant denies an access, where nobody is let in; None where no grant lets the client mount
abbrev pub rules_there : MdsStanding → Option (List MdsRule)
rules_there s = rules_of s.verdict

-- the first rule by which a grant denies the access to its own user, who is in all of the groups that it lists
abbrev pub reason : Inode → Access → Grant → Option Rule
reason i access g = reason_of (wanted_of i access) i.attr g

-- the same of each grant, in their order; none where no access is missing
abbrev pub reasons : Inode → List Grant → Option Access → List Rule
reasons i grants (Some access) = filter_map (reason i access) grants
reasons i grants None = []

-- what was found is what is held and permitted to nobody, with the least access that is missing and why each grant denies it
pub record IsBeyond (held : Caps) (grants : List Grant) (i : Inode) (found : Finding) : Type 0 where
  pub caps : (cap : Cap) → IsTrue (has found.caps cap) ↔ (IsTrue (has held cap) × (IsPermittedToSome i grants cap → ⊥))
  pub some : found.caps ≢ no_caps
  pub missing : found.missing ≡ least_access found.caps
  pub denial : found.denial ≡ Own (reasons i grants found.missing)
  pub one_each : IfSome found.missing (λ access. length (reasons i grants found.missing) ≡ length grants)
