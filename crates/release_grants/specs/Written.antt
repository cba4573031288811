-- The text that grants are written as, for a release to read.
use Rattle.std.specs.Prelude.{◌≡◌, ◌⊎◌, ℕ, ◌+◌, ◌==◌, Bool, false, not, ◌&&◌, ◌||◌, Option, Some, None, is_none, Result, Ok, Err, IsOk, List, [], ◌∷◌, ◌++◌, length, map, position, codes}
use Rattle.std.specs.Prelude.{if◌then◌else◌}
use Rattle.std.specs.Global.{Vec}
use Rattle.std.specs.List.{join_by}
use Rattle.byte_sets.specs.Sets.{is_bare_path_byte}
use Rattle.capspec.specs.declared.fault.SpecFault.{SpecFault}
use Rattle.capspec.specs.declared.grant.Grant.{Grant as OwnGrant}
use Rattle.capspec.specs.Faults.{IsFault}
use Rattle.capspec.specs.Flags.{has_p, has_s, has_w}
use Rattle.capspec.specs.Grants.{Reads}
use Rattle.capspec.specs.Paths.{slashed}
use Rattle.capspec.specs.Words.{rest_while}
use Rattle.capspec.specs.Written.{gids_text, uid_text}
use Rattle.release_grants.specs.declared.flags.Flags.{Flags}
use Rattle.release_grants.specs.declared.grant.Grant.{Grant}
use Rattle.release_grants.specs.declared.forms.NoForm.{NoForm}
use Rattle.release_grants.specs.declared.forms.NoForm.TheVariants.{NotRead, OfGrant}
use Rattle.release_grants.specs.declared.switches.Switches.{Switches}
use Rattle.release_grants.specs.declared.reading.Unread.{Unread}
use Rattle.release_grants.specs.Reading.{read_of, takes_uid}
use Rattle.release_grants.specs.Texts.{is_not}

-- ---- grants

-- the word, where the condition holds
abbrev pub word_if : Bool → List ℕ → List ℕ
word_if condition word = if condition then word else []

abbrev pub flags_text : Flags → List ℕ
flags_text flags =
    if flags.all then codes "*"
    else (if flags.w then codes "rw" ++ (word_if flags.f (codes "f") ++ (word_if flags.p (codes "p") ++ word_if flags.s (codes "s"))) else codes "r")

-- the item behind its word, where there is one
abbrev pub item_text : List ℕ → Option (List ℕ) → List ℕ
item_text word None = []
item_text word (Some value) = word ++ value

-- the path can stand without quotes
abbrev pub is_bare : List ℕ → Bool
is_bare path = not (length path == 0) && (length (rest_while is_bare_path_byte path) == 0)

-- a double quote, or where the path has one, a single one
abbrev pub quote_for : List ℕ → List ℕ
quote_for path = if length (rest_while (is_not 34) path) == 0 then codes "\"" else codes "'"

abbrev pub path_value : List ℕ → List ℕ
path_value path = if is_bare path then path else quote_for path ++ (path ++ quote_for path)

abbrev pub path_item : Option (List ℕ) → List ℕ
path_item None = []
path_item (Some path) = codes " path=" ++ path_value path

-- `allow`, the flags, and what the grant has of the items, in this order
abbrev pub mds_grant_text : Grant → List ℕ
mds_grant_text g =
    codes "allow " ++ (flags_text g.flags ++ (item_text (codes " fsname=") g.fsname ++ (path_item g.path ++ (word_if g.root_squash (codes " root_squash")
    ++ (uid_text g.uid ++ (gids_text g.gids ++ item_text (codes " network ") g.network))))))

-- the grants, with a comma and a space between each two
abbrev pub mds_written : List Grant → List ℕ
mds_written grants = join_by mds_grant_text (codes ", ") grants

-- ---- the form of a text

abbrev pub path_if : List ℕ → Option (List ℕ)
path_if text = if length text == 0 then None else Some text

-- a grant that this server read, as an MDS has it
abbrev pub as_there : OwnGrant → Grant
as_there g = record {
  flags = record { all = false; w = has_w g.flags; f = false; p = has_p g.flags; s = has_s g.flags };
  fsname = g.fsname;
  path = path_if (slashed g.path);
  root_squash = g.root_squash;
  uid = g.uid;
  gids = g.gids;
  network = None;
}

-- the release reads all its items side by side
abbrev pub has_form : Switches → OwnGrant → Bool
has_form switches g = takes_uid switches g.fsname g.root_squash || is_none g.uid

abbrev pub has_none : Switches → OwnGrant → Bool
has_none switches g = not (has_form switches g)

-- the form of these grants in the order of the items there, which the release reads; or the first grant that has none
abbrev pub IsInOrder : Switches → List OwnGrant → Result (Vec ℕ) NoForm → Type 0
IsInOrder switches grants (Ok form) = (form.items ≡ mds_written (map as_there grants)) × IsOk (read_of switches form.items)
IsInOrder switches grants (Err (OfGrant number)) = (place : ℕ) × (position (has_none switches) grants ≡ Some place) × (number ≡ place + 1)
IsInOrder switches grants (Err (NotRead unread)) = read_of switches (mds_written (map as_there grants)) ≡ Err unread

-- the release does not read the text: what this server reads in it, in the order of the items there; or no form, where this server reads it
-- neither
abbrev pub IsReordered : Switches → List ℕ → Unread → Result (Vec ℕ) NoForm → Type 0
IsReordered switches text unread form =
    ((grants : List OwnGrant) × Reads text grants × IsInOrder switches grants form)
    ⊎ ((fault : SpecFault) × IsFault text fault × (form ≡ Err (NotRead unread)))

-- by what the release reads
abbrev pub IsFormBy : Switches → List ℕ → Result (List Grant) Unread → Result (Vec ℕ) NoForm → Type 0
IsFormBy switches text (Ok grants) form = (written : Vec ℕ) × (form ≡ Ok written) × (written.items ≡ mds_written grants)
IsFormBy switches text (Err unread) form = IsReordered switches text unread form

-- the form of a text that the release reads: its grants, as it reads them, and else as this server does
abbrev pub IsForm : Switches → List ℕ → Result (Vec ℕ) NoForm → Type 0
IsForm switches text form = IsFormBy switches text (read_of switches text) form
