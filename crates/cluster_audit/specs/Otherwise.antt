-- Where the MDS of a release of Ceph judges otherwise than this server whether somebody behind the key of a client that holds something may read or
-- write it.
use Rattle.std.specs.Prelude.{◌≡◌, ◌⊎◌, ◌&&◌, ℕ, Bool, true, false, is_none, MatchOption, List, [], ◌++◌, codes}
use Rattle.capbits.specs.Caps.{Caps}
use Rattle.capbits.specs.Text.{text_of}
use Rattle.capspec.specs.declared.fault.SpecFault.{SpecFault}
use Rattle.capspec.specs.declared.grant.Grant.{Grant}
use Rattle.capspec.specs.Faults.{IsFault}
use Rattle.capspec.specs.Grants.{Reads}
use Rattle.capgrant.specs.declared.access.Access.{Access}
use Rattle.capgrant.specs.declared.access.Access.TheVariants.{Read, Write}
use Rattle.capgrant.specs.Access.{access_word}
use Rattle.capgrant.specs.Permitted.{for_readers, for_writers}
use Rattle.ceph_input.specs.Dump.{Held, Listed, PathMap}
use Rattle.locktable.specs.Targets.{has_any}
use Rattle.policy_analysis.specs.declared.standing.Standing.{Standing}
use Rattle.policy_analysis.specs.BesideStanding.{other_of}
use Rattle.policy_analysis.specs.Standing.{AnswersOf}
use Rattle.release_rules.specs.declared.beside.Others.{Others}
use Rattle.release_rules.specs.declared.release.Release.TheVariants.{Pacific, Reef, Tentacle}
use Rattle.texts.specs.declared.shape.Shape.{Shape}
use Rattle.texts.specs.declared.shape.Shape.TheVariants.{Lines, Objects}
use Rattle.texts.specs.Mds.{others_lines}
use Rattle.texts.specs.Quoting.{quoted}
use Rattle.cluster_audit.specs.declared.notes.Detail.{Detail}
use Rattle.cluster_audit.specs.declared.notes.Detail.TheVariants.{Each, Groups}
use Rattle.cluster_audit.specs.declared.notes.Manner.{Manner}
use Rattle.cluster_audit.specs.Audited.{Clients, Give, entity_of, path_of}
use Rattle.cluster_audit.specs.Callers.{Inode, inode, wanted_of}
use Rattle.cluster_audit.specs.Lines.{place_text}
use Rattle.cluster_audit.specs.MdsFindings.{wanted_there}
use Rattle.cluster_audit.specs.Order.{AreInOrder}

-- ---- what is told of an access

-- what each release answers otherwise than this server, by the same text of grants
abbrev pub others_to : Inode → Access → List ℕ → Standing → Others
others_to i access text standing = record {
  pacific = other_of (wanted_there Pacific i access) text standing;
  reef = other_of (wanted_there Reef i access) text standing;
  tentacle = other_of (wanted_there Tentacle i access) text standing;
}

-- of a client that holds something, and where, or of the client alone
abbrev pub holder_front : Detail → List (List ℕ) → List ℕ → ℕ → List ℕ
holder_front Each path client session = place_text path client session
holder_front Groups path client session = quoted client

abbrev pub access_front : Detail → List (List ℕ) → List ℕ → ℕ → Access → List ℕ
access_front detail path client session access = holder_front detail path client session ++ (codes " " ++ (access_word access ++ codes ": "))

-- by these grants and their text: a line for each answer that releases give otherwise
abbrev pub TellsOfAccess : Detail → Inode → List ℕ → ℕ → List ℕ → List Grant → Access → List ℕ → Type 0
TellsOfAccess detail i client session text grants access lines = (standing : Standing) × AnswersOf (wanted_of i access) i.attr grants standing
    × (lines ≡ others_lines (access_front detail i.path client session access) (others_to i access text standing))

-- something is told, or nothing
abbrev pub TellsIf : Bool → (List ℕ → Type 0) → List ℕ → Type 0
TellsIf true Tells lines = Tells lines
TellsIf false Tells lines = lines ≡ []

-- ---- what is told of one who holds something

-- to read where it holds some of a reader's caps, and to write where it holds some of a writer's
abbrev pub TellsOfCaps : Detail → Inode → List ℕ → ℕ → List ℕ → List Grant → Caps → List ℕ → Type 0
TellsOfCaps detail i client session text grants caps lines = (reads : List ℕ) × (writes : List ℕ)
    × TellsIf (has_any caps for_readers) (TellsOfAccess detail i client session text grants Read) reads
    × TellsIf (has_any caps for_writers) (TellsOfAccess detail i client session text grants Write) writes × (lines ≡ reads ++ writes)

-- nothing of what is spelled otherwise than caps are
abbrev pub TellsOfHeld : Detail → Inode → List ℕ → Held → List ℕ → List Grant → List ℕ → Type 0
TellsOfHeld detail i client h text grants lines = ((caps : Caps) × (h.issued ≡ text_of caps) × TellsOfCaps detail i client h.client text grants caps lines)
    ⊎ (((caps : Caps) → h.issued ≡ text_of caps → ⊥) × (lines ≡ []))

-- nor of one whose grants this server does not read
abbrev pub TellsOfText : Detail → Inode → List ℕ → Held → List ℕ → List ℕ → Type 0
TellsOfText detail i client h text lines = ((grants : List Grant) × Reads text grants × TellsOfHeld detail i client h text grants lines)
    ⊎ ((fault : SpecFault) × IsFault text fault × (lines ≡ []))

-- nor of one who is not listed, or has no grants
abbrev pub TellsOfHolder : Detail → Clients → Inode → Held → List ℕ → Type 0
TellsOfHolder detail known i h lines =
    MatchOption (entity_of known.entities known.sessions h.client) (lines ≡ []) (λ e. MatchOption e.caps (lines ≡ []) (λ text. TellsOfText detail i e.name h text lines))

-- ---- what is told of all

-- of each who holds something of an inode to which a path leads, or led
abbrev pub TellsOfInode : List ℕ → Clients → PathMap → Listed → List ℕ → Type 0
TellsOfInode fs known paths it lines =
    MatchOption (path_of paths it) (lines ≡ []) (λ path. Give (TellsOfHolder known.manner.detail known (inode fs path it.attr)) it.holders lines)

abbrev pub are_lines : Shape → Bool
are_lines Lines = true
are_lines Objects = false

-- where it is asked for, in lines, and this server's rules are those by which is judged
abbrev pub tells_more : Manner → Bool
tells_more m = m.more && (is_none m.mds && are_lines m.shape)

-- the lines of all inodes, in the order of their bytes, each once
abbrev pub TellsInOrder : List ℕ → Clients → PathMap → List Listed → List ℕ → Type 0
TellsInOrder fs known paths inodes lines = (told : List ℕ) × Give (TellsOfInode fs known paths) inodes told × AreInOrder told lines

abbrev pub TellsOfAll : List ℕ → Clients → PathMap → List Listed → List ℕ → Type 0
TellsOfAll fs known paths inodes lines = TellsIf (tells_more known.manner) (TellsInOrder fs known paths inodes) lines
