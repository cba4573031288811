-- Which clients of a cluster may make an access, by the rules of a release.
use Rattle.std.specs.Prelude.{◌≡◌, ℕ, Bool, true, false, Option, Some, None, Result, Ok, Err, List, []}
use Rattle.capgrant.specs.declared.access.Attr.{Attr}
use Rattle.policy_analysis.specs.declared.mds_standing.MdsStanding.{MdsStanding}
use Rattle.policy_analysis.specs.Callers.{Wanted}
use Rattle.policy_analysis.specs.MdsStanding.{MdsWanted, standing_by, switches}
use Rattle.release_grants.specs.declared.grant.Grant.{Grant}
use Rattle.release_grants.specs.declared.reading.Unread.{Unread}
use Rattle.release_rules.specs.declared.release.Release.{Release}
use Rattle.release_grants.specs.declared.switches.Switches.{Switches}
use Rattle.release_grants.specs.Reading.{read_of}
use Rattle.texts.specs.MdsStandings.{mds_client_text, mds_standing_object, mds_unread_line, mds_unread_object}
use Rattle.queries.specs.declared.clients.Telling.{Telling}
use Rattle.queries.specs.declared.clients.Telling.TheVariants.{Line, More, Object}

-- the same access in a cluster of a release
abbrev pub wanted_there : Wanted → Option Attr → Release → MdsWanted
wanted_there w attr release = record { release = release; fs = w.fs; path = w.path; access = w.access; known = attr }

-- what is said of a client, told in this way: lines, or an object that says all of it
abbrev pub mds_standing_in : Telling → List ℕ → MdsWanted → MdsStanding → List ℕ
mds_standing_in Line client w standing = mds_client_text client w.access w.path standing
mds_standing_in More client w standing = mds_client_text client w.access w.path standing
mds_standing_in Object client w standing = mds_standing_object client w standing

-- the same of one whose grants the release reads up to a byte alone
abbrev pub mds_unread_in : Telling → List ℕ → MdsWanted → ℕ → List ℕ
mds_unread_in Line client w at = mds_unread_line client w.release at
mds_unread_in More client w at = mds_unread_line client w.release at
mds_unread_in Object client w at = mds_unread_object client w at

-- the grants that the release reads in a text; none where there is none
abbrev pub grants_in : Switches → Option (List ℕ) → Result (List Grant) Unread
grants_in s None = Ok []
grants_in s (Some text) = read_of s text

-- whether the client could be judged, and what is said of it
abbrev pub SaysOf : Telling → List ℕ → MdsWanted → Result (List Grant) Unread → Bool → List ℕ → Type 0
SaysOf telling client w (Ok grants) judged line = (judged ≡ true) × (line ≡ mds_standing_in telling client w (standing_by w grants))
SaysOf telling client w (Err unread) judged line = (judged ≡ false) × (line ≡ mds_unread_in telling client w unread.at)

-- the same by the text of its grants
abbrev pub SaysBy : Telling → MdsWanted → List ℕ → Option (List ℕ) → Bool → List ℕ → Type 0
SaysBy telling w client caps judged line = SaysOf telling client w (grants_in (switches w) caps) judged line
