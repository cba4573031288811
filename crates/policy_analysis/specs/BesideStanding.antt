-- Where the MDS of a release lets in somebody behind a client's key though nobody may here, or nobody though somebody may here, by the same text.
use Rattle.std.specs.Prelude.{ℕ, Option, Some, None, Result, Ok, Err, List}
use Rattle.capgrant.specs.declared.access.Access.{Access}
use Rattle.release_rules.specs.declared.beside.Otherwise.{Otherwise}
use Rattle.release_grants.specs.declared.grant.Grant.{Grant}
use Rattle.release_grants.specs.declared.reading.Unread.{Unread}
use Rattle.release_grants.specs.declared.switches.Switches.{Switches}
use Rattle.release_rules.specs.declared.verdict.Verdict.{Verdict}
use Rattle.release_rules.specs.declared.verdict.Verdict.TheVariants as mds
use Rattle.release_rules.specs.Beside.{allowed_there, denied_there}
use Rattle.release_grants.specs.Reading.{read_of}
use Rattle.policy_analysis.specs.declared.standing.Standing.{Standing}
use Rattle.policy_analysis.specs.declared.standing.Standing.TheVariants as here
use Rattle.policy_analysis.specs.MdsStanding.{MdsWanted, standing_by, switches}

-- what is said beside what this server lets somebody do, by these grants and what the MDS says
abbrev pub beside_standing : Switches → List Grant → Access → Standing → Verdict → Option Otherwise
beside_standing s grants access (here.Allowed number) (mds.Denied rules) = Some (denied_there access number rules)
beside_standing s grants access (here.Depends number) (mds.Denied rules) = Some (denied_there access number rules)
beside_standing s grants access (here.Denied rules) (mds.Allowed number) = Some (allowed_there s grants access number rules)
beside_standing s grants access (here.Denied rules) (mds.DependsOnAddress number) = Some (allowed_there s grants access number rules)
beside_standing s grants access standing verdict = None

-- by what the release reads: of a client whose grants it does not read nothing is said
abbrev pub beside_read : MdsWanted → Standing → Result (List Grant) Unread → Option Otherwise
beside_read w standing (Err unread) = None
beside_read w standing (Ok grants) = beside_standing (switches w) grants w.access standing (standing_by w grants).verdict

-- by the text of the grants
abbrev pub other_of : MdsWanted → List ℕ → Standing → Option Otherwise
other_of w text standing = beside_read w standing (read_of (switches w) text)
