-- What a release reads in a whole text.
use Rattle.std.specs.Prelude.{ℕ, zero, suc, ◌-◌, Bool, true, false, not, ◌==◌, ◌&&◌, ◌||◌, Option, Some, None, is_none, is_some, option_map, option_and_then}
use Rattle.std.specs.Prelude.{Result, Ok, Err, List, [], ◌∷◌, ◌++◌, length, drop, codes, bytes_eq, if◌then◌else◌}
use Rattle.byte_sets.specs.Sets.{begins, is_any_white, is_mark}
use Rattle.capspec.specs.Words.{rest_while}
use Rattle.release_grants.specs.declared.flags.Flags.{Flags}
use Rattle.release_grants.specs.declared.grant.Grant.{Grant}
use Rattle.release_grants.specs.declared.reading.Unread.{Unread}
use Rattle.release_grants.specs.declared.switches.Switches.{Switches}
use Rattle.release_grants.specs.Texts.{Found, behind, behind_white, if_found, is_space, or_none}
use Rattle.release_grants.specs.Items.{flags_at, fsname_at, gids_at, network_at, path_at, root_squash_at, uid_at}

-- ---- one grant

-- a uid may stand behind these items: a release with two orders takes none beside fsname or root_squash
abbrev pub takes_uid : Switches → Option (List ℕ) → Bool → Bool
takes_uid switches fsname root_squash = not switches.has_two_orders || (is_none fsname && not root_squash)

-- gids may stand here: a release with two orders takes none without a uid
abbrev pub takes_gids : Switches → Option ℕ → Bool
takes_gids switches uid = not switches.has_two_orders || is_some uid

abbrev pub uid_if : Bool → List ℕ → Option ℕ × List ℕ
uid_if may text = if may then or_none (uid_at text) text else (None, text)

abbrev pub gids_if : Bool → List ℕ → List ℕ × List ℕ
gids_if may text = if may then gids_at text else ([], text)

-- the items of a grant in their order, each of which may be left out, and what is left
abbrev pub items_at : Switches → Flags → List ℕ → Grant × List ℕ
items_at switches flags text =
    let fsname = or_none (fsname_at text) text in
    let path = or_none (path_at fsname.1) fsname.1 in
    let root_squash = root_squash_at path.1 in
    let uid = uid_if (takes_uid switches fsname.0 root_squash.0) root_squash.1 in
    let gids = gids_if (takes_gids switches uid.0) uid.1 in
    let network = or_none (network_at gids.1) gids.1 in
    (record { flags = flags; fsname = fsname.0; path = path.0; root_squash = root_squash.0; uid = uid.0; gids = gids.0; network = network.0 }, network.1)

-- `allow`, white space, the flags and the items
abbrev pub grant_at : Switches → List ℕ → Found Grant
grant_at switches text =
    option_map (λ found. items_at switches found.0 found.1) (option_and_then (λ rest. option_and_then flags_at (behind_white rest)) (behind (codes "allow") text))

-- ---- all grants

-- what follows a `,` or `;`, with spaces round it
abbrev pub behind_separator : List ℕ → Option (List ℕ)
behind_separator text =
    let mark = rest_while is_space text in
    if begins is_mark mark then Some (rest_while is_space (drop 1 mark)) else None

abbrev pub next_grant : Switches → List ℕ → Found Grant
next_grant switches text = option_and_then (grant_at switches) (behind_separator text)

-- these grants and those that follow, at most as many as are counted, and what is left
abbrev pub more_grants : Switches → ℕ → List Grant → List ℕ → List Grant × List ℕ
more_grants switches zero grants text = (grants, text)
more_grants switches (suc count) grants text = if_found (next_grant switches text) (grants, text) (λ next. more_grants switches count (grants ++ next.0 ∷ []) next.1)

-- the text is not read: the place is where what is left begins
abbrev pub unread_from : {A : Type 0} → List ℕ → List ℕ → Result A Unread
unread_from text left = Err (record { at = length text - length left })

-- the grants, if nothing is left but white space
abbrev pub whole : List ℕ → List Grant × List ℕ → Result (List Grant) Unread
whole text found =
    let left = rest_while is_any_white found.1 in
    if length left == 0 then Ok found.0 else unread_from text left

-- the grants from the first on; a text has no more than it has bytes
abbrev pub grants_behind : Switches → List ℕ → Found Grant → List ℕ → Result (List Grant) Unread
grants_behind switches text None start = unread_from text start
grants_behind switches text (Some (first, rest)) start = whole text (more_grants switches (length rest) (first ∷ []) rest)

-- the one grant of the text `allow`: flags are `rwps`, and there is no item
abbrev pub plain_allow : Grant
plain_allow = record { flags = record { all = false; w = true; f = false; p = true; s = true }; fsname = None; path = None; root_squash = false; uid = None; gids = []; network = None }

-- What the release reads in a text: grants with a separator between each two, and white space round the whole. Else it reads none of it, and
-- the place is the first byte that it can make nothing of.
abbrev pub read_of : Switches → List ℕ → Result (List Grant) Unread
read_of switches text =
    if bytes_eq text (codes "allow") then Ok (plain_allow ∷ [])
    else (let start = rest_while is_any_white text in grants_behind switches text (grant_at switches start) start)
