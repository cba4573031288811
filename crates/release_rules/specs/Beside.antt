-- Where the MDS of a release answers otherwise than this server, by the same text of grants, and why.
use Rattle.std.specs.Prelude.{ℕ, ◌-◌, Bool, true, false, ◌&&◌, Option, Some, None, Result, Ok, Err, List, slice_get, if◌then◌else◌}
use Rattle.capgrant.specs.declared.access.Access.{Access}
use Rattle.capgrant.specs.declared.access.Access.TheVariants.{Chmod, SetVxattr}
use Rattle.capgrant.specs.declared.answer.Verdict.{Verdict as Answer}
use Rattle.capgrant.specs.declared.answer.Verdict.TheVariants as here
use Rattle.capgrant.specs.declared.rule.Rule.{Rule as OwnRule}
use Rattle.capgrant.specs.declared.rule.Rule.TheVariants as own
use Rattle.capgrant.specs.Failing.{is_some_and}
use Rattle.release_rules.specs.declared.beside.Otherwise.{Otherwise}
use Rattle.release_rules.specs.declared.beside.Others.{Others}
use Rattle.release_rules.specs.declared.beside.Reason.{Reason}
use Rattle.release_rules.specs.declared.beside.Reason.TheVariants.{AttributeByFlag, GroupsInOrder, LargeUid, ModeByBits, OtherFileSystem, OtherText, PathAsText, ZeroUid}
use Rattle.release_grants.specs.declared.grant.Grant.{Grant}
use Rattle.release_grants.specs.declared.reading.Unread.{Unread}
use Rattle.release_rules.specs.declared.release.Release.{Release}
use Rattle.release_rules.specs.declared.release.Release.TheVariants.{Pacific, Reef, Tentacle}
use Rattle.release_grants.specs.declared.switches.Switches.{Switches}
use Rattle.release_rules.specs.declared.rule.Rule.{Rule}
use Rattle.release_rules.specs.declared.rule.Rule.TheVariants as there
use Rattle.release_rules.specs.declared.verdict.Verdict.{Verdict}
use Rattle.release_rules.specs.declared.verdict.Verdict.TheVariants as mds
use Rattle.release_rules.specs.Failing.{is_zero}
use Rattle.release_rules.specs.Question.{Question}
use Rattle.release_grants.specs.Reading.{read_of}
use Rattle.release_rules.specs.Releases.{switches_of}
use Rattle.release_rules.specs.Verdicts.{verdict_of}

-- ---- why

-- the grant has `uid=0`, and the release reads that as no uid
abbrev pub names_nobody : Switches → Option Grant → Bool
names_nobody switches g = switches.zero_is_no_uid && is_some_and (λ grant. is_some_and is_zero grant.uid) g

-- by bits of the mode that one of the two does not look at
abbrev pub why_by_mode : Access → Reason
why_by_mode SetVxattr = AttributeByFlag
why_by_mode Chmod = ModeByBits
why_by_mode access = GroupsInOrder

-- why one allows there that squashes root here: whom it allows to set an attribute, or another than root, whom its uid names here
abbrev pub why_squashed : Access → Reason
why_squashed SetVxattr = AttributeByFlag
why_squashed access = ZeroUid

-- that the uid names nobody there, or else this reason
abbrev pub zero_uid_or : Bool → Reason → Reason
zero_uid_or nobody reason = if nobody then ZeroUid else reason

-- why a grant allows there that fails here by this rule, by whether its uid names nobody there
abbrev pub why_allowed : Access → Bool → Option OwnRule → Reason
why_allowed access nobody (Some own.FsName) = OtherFileSystem
why_allowed access nobody (Some own.Uid) = ZeroUid
why_allowed access nobody (Some own.Gids) = ZeroUid
why_allowed access nobody (Some own.NotOwnGroup) = ZeroUid
why_allowed access nobody (Some own.NoWrite) = AttributeByFlag
why_allowed access nobody (Some own.RootSquash) = why_squashed access
why_allowed access nobody (Some own.NotOwner) = zero_uid_or nobody ModeByBits
why_allowed access nobody (Some own.ModeBits) = zero_uid_or nobody (why_by_mode access)
why_allowed access nobody rule = OtherText

-- why a grant that allows here fails there, by the rule
abbrev pub why_denied : Access → Option Rule → Reason
why_denied access (Some there.Uid) = LargeUid
why_denied access (Some there.Path) = PathAsText
why_denied access (Some there.NotOwnGroup) = GroupsInOrder
why_denied access (Some there.ModeBits) = why_by_mode access
why_denied access rule = OtherText

-- ---- where

-- what is said where the grant of this number is the first that allows here, and the MDS denies by these rules
abbrev pub denied_there : Access → ℕ → List Rule → Otherwise
denied_there access number rules = record { allows = false; grant = number; reason = why_denied access (slice_get rules (number - 1)) }

-- where it is the first of these grants that allows there, and this server denies by these rules
abbrev pub allowed_there : Switches → List Grant → Access → ℕ → List OwnRule → Otherwise
allowed_there switches grants access number rules =
    record { allows = true; grant = number; reason = why_allowed access (names_nobody switches (slice_get grants (number - 1))) (slice_get rules (number - 1)) }

-- what is said beside this server's answer, by these grants and what the MDS says: something where one of the two allows and the other denies
abbrev pub beside : Switches → List Grant → Access → Answer → Verdict → Option Otherwise
beside switches grants access (here.Allowed number) (mds.Denied rules) = Some (denied_there access number rules)
beside switches grants access (here.Denied rules) (mds.Allowed number) = Some (allowed_there switches grants access number rules)
beside switches grants access answer verdict = None

-- by what the release reads: a client whose grants it does not read comes to ask nothing
abbrev pub beside_read : Switches → Question → Access → Answer → Result (List Grant) Unread → Option Otherwise
beside_read switches q access answer (Err unread) = None
beside_read switches q access answer (Ok grants) = beside switches grants access answer (verdict_of switches q grants)

-- by the text of the grants
abbrev pub other_of : Release → Question → Access → Answer → List ℕ → Option Otherwise
other_of release q access answer text = beside_read (switches_of release) q access answer (read_of (switches_of release) text)

-- of each release
abbrev pub others_of : Question → Access → Answer → List ℕ → Others
others_of q access answer text = record {
  pacific = other_of Pacific q access answer text;
  reef = other_of Reef q access answer text;
  tentacle = other_of Tentacle q access answer text;
}
