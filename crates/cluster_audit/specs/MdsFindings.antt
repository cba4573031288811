-- What a client holds beyond what the MDS of a release lets anybody behind its key do, and why.
use Rattle.std.specs.Prelude.{◌≡◌, Bool, true, false, not, if◌then◌else◌, MatchOption, Option, Some, None, unwrap_or, List, [], IsTrue}
use Rattle.capbits.specs.declared.cap.Cap.{Cap}
use Rattle.capbits.specs.Caps.{Caps, has}
use Rattle.capbits.specs.Sets.{is_empty, minus}
use Rattle.capspec.specs.declared.grant.Grant.{Grant as OwnGrant}
use Rattle.capgrant.specs.declared.access.Access.{Access}
use Rattle.capgrant.specs.declared.access.Access.TheVariants.{Read, Write}
use Rattle.capgrant.specs.Permitted.{caps_for}
use Rattle.policy_analysis.specs.declared.mds_standing.MdsStanding.{MdsStanding}
use Rattle.policy_analysis.specs.MdsStanding.{MdsWanted, standing_by}
use Rattle.release_grants.specs.declared.grant.Grant.{Grant}
use Rattle.release_rules.specs.declared.release.Release.{Release}
use Rattle.release_rules.specs.declared.verdict.Verdict.{Verdict}
use Rattle.release_rules.specs.declared.verdict.Verdict.TheVariants as verdicts
use Rattle.release_rules.specs.Verdicts.{is_allowed}
use Rattle.cluster_audit.specs.declared.findings.Denial.{Denial}
use Rattle.cluster_audit.specs.declared.findings.Denial.TheVariants.{Own, There}
use Rattle.cluster_audit.specs.declared.findings.Finding.{Finding}
use Rattle.cluster_audit.specs.declared.grants_by.GrantsBy.{GrantsBy}
use Rattle.cluster_audit.specs.declared.grants_by.GrantsBy.TheVariants as grants_by
use Rattle.cluster_audit.specs.declared.mds_findings.Beyond.{Beyond}
use Rattle.cluster_audit.specs.Callers.{Inode, IsPermittedToSome}
use Rattle.cluster_audit.specs.Findings.{IsBeyond, least_access}

-- what is wanted of the inode in a cluster of a release
abbrev pub wanted_there : Release → Inode → Access → MdsWanted
wanted_there release i access = record { release = release; fs = i.fs; path = i.place; access = access; known = Some i.attr }

-- what its MDS says to somebody behind the key
abbrev pub said_there : Release → Inode → List Grant → Access → MdsStanding
said_there release i grants access = standing_by (wanted_there release i access) grants

-- it lets somebody in, if the client is in the network of the grant
abbrev pub may_let_in : Verdict → Bool
may_let_in (verdicts.Allowed grant) = true
may_let_in (verdicts.DependsOnAddress grant) = true
may_let_in verdict = false

-- what somebody may hold, wherever the client is
abbrev pub for_sure : Release → Inode → List Grant → Caps
for_sure release i grants = caps_for (is_allowed (said_there release i grants Read).verdict) (is_allowed (said_there release i grants Write).verdict)

-- what somebody may hold, if the client is in the networks of its grants
abbrev pub at_most : Release → Inode → List Grant → Caps
at_most release i grants = caps_for (may_let_in (said_there release i grants Read).verdict) (may_let_in (said_there release i grants Write).verdict)

-- why the access that is missing is denied
abbrev pub denial_there : Release → Inode → List Grant → Option Access → Denial
denial_there release i grants (Some access) = There (said_there release i grants access)
denial_there release i grants None = Own []

-- these caps are beyond what the grants permit, with the least access that is missing and why it is denied
abbrev pub found_there : Release → Inode → List Grant → Caps → Finding
found_there release i grants caps = record { caps = caps; missing = least_access caps; denial = denial_there release i grants (least_access caps) }

abbrev pub found_if : Release → Inode → List Grant → Caps → Option Finding
found_if release i grants caps = if is_empty caps then None else Some (found_there release i grants caps)

-- what of what is held nobody may hold at all, and whether somebody may hold some of the rest from some addresses alone
abbrev pub beyond_there : Release → Inode → List Grant → Caps → Beyond
beyond_there release i grants held = record {
  finding = found_if release i grants (minus held (at_most release i grants));
  is_open = not (is_empty (minus (minus held (for_sure release i grants)) (minus held (at_most release i grants))));
}

-- ---- by whichever rules

-- all of it is permitted to somebody by the grants, or this is what is not
abbrev pub IsFound : List OwnGrant → Inode → Caps → Option Finding → Type 0
IsFound grants i held found = MatchOption found ((cap : Cap) → IsTrue (has held cap) → IsPermittedToSome i grants cap) (IsBeyond held grants i)

-- what is found by the grants of a client; by this server's rules no address decides
abbrev pub IsBeyondBy : GrantsBy → Inode → Caps → Beyond → Type 0
IsBeyondBy (grants_by.Own grants) i held beyond = IsFound grants i held beyond.finding × (beyond.is_open ≡ false)
IsBeyondBy (grants_by.There release grants) i held beyond = beyond ≡ beyond_there release i (unwrap_or grants []) held
