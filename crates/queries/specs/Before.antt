-- What an MDS logs at debug 20 before a check: of which inode it is, and its caller with all groups.
use Rattle.std.specs.Prelude.{ℕ, Bool, false, not, ◌==◌, ◌&&◌, ◌||◌, Option, Some, None, is_none, is_some, option_and_then, option_map, List, [], ◌∷◌, length, codes, bytes_eq, if◌then◌else◌}
use Rattle.queries.specs.declared.before.Before.{Before}
use Rattle.queries.specs.declared.before.Given.{Given}
use Rattle.queries.specs.Cuts.{cut_first, then_cut}
use Rattle.queries.specs.Checks.{CheckTexts, check_in, may_stand_before}

-- ---- what it says

-- each part as it stands in the line: the path where it can be read, the caller's uid and gid, and its groups
pub record BeforeTexts : Type 0 where
  pub path : Option (List ℕ)
  pub uid : List ℕ
  pub gid : List ℕ
  pub groups : List ℕ

abbrev pub before_texts : Option (List ℕ) → List ℕ → List ℕ → List ℕ → BeforeTexts
before_texts path uid gid groups = record { path = path; uid = uid; gid = gid; groups = groups }

-- the same of what the code has
abbrev pub before_texts_of : Before → BeforeTexts
before_texts_of b = before_texts (option_map (λ path. path.now) b.path) b.uid.now b.gid.now b.groups.now

-- ---- which lines are such

-- nothing of a check stands before it, and no other message begins there
abbrev pub may_stand_in_front : List ℕ → Bool
may_stand_in_front front = is_none (check_in front) && may_stand_before (codes "20 Session ") front

-- what stands behind `check_access: [inode `, if the line is one
abbrev pub before_in : List ℕ → Option (List ℕ)
before_in line = option_and_then (λ parts. if may_stand_in_front parts.0 then Some parts.1 else None) (cut_first (codes "check_access: [inode ") line)

-- ---- its parts

-- the mark stands in the text
abbrev pub has : List ℕ → List ℕ → Bool
has mark text = is_some (cut_first mark text)

abbrev pub begins_with_slash : List ℕ → Bool
begins_with_slash [] = false
begins_with_slash (b ∷ text) = b == 47

-- a space, or the `{` of the list of replicas
abbrev pub begins_behind_auth : List ℕ → Bool
begins_behind_auth [] = false
begins_behind_auth (b ∷ text) = (b == 32) || (b == 123)

-- The path in front of the first ` auth` can be read in one way: it is not cut off, so that it begins with a slash; and the word that ends it
-- stands nowhere else.
abbrev pub is_whole : List ℕ → List ℕ → Bool
is_whole path behind = begins_with_slash path && (begins_behind_auth behind && (not (has (codes " auth ") behind) && not (has (codes " auth{") behind)))

abbrev pub whole_path : List ℕ → List ℕ → Option (List ℕ)
whole_path path behind = if is_whole path behind then Some path else None

-- the path at the front of an inode. Behind that of another MDS's inode stands ` rep@`.
abbrev pub front_path : List ℕ → Option (List ℕ)
front_path inode = if has (codes " rep@") inode then None else option_and_then (λ parts. whole_path parts.0 parts.1) (cut_first (codes " auth") inode)

-- the path of an inode, behind its number and what snapshots it is in
abbrev pub path_in : List ℕ → Option (List ℕ)
path_in text = option_and_then (λ parts. front_path parts.1) (cut_first (codes "] ") text)

-- the parts, cut off from the end on
abbrev pub before_of : List ℕ → Option BeforeTexts
before_of text =
    then_cut (codes "]") text (λ text behind.
    then_cut (codes " caller_gid_list=[") text (λ text groups.
    then_cut (codes " caller_gid=") text (λ text gid.
    then_cut (codes " caller_uid=") text (λ inode uid.
    Some (before_texts (path_in inode) uid gid groups)))))

-- ---- a check behind it

-- what is known of the check: it is of this caller
abbrev pub known_of : CheckTexts → Option BeforeTexts → Option BeforeTexts
known_of check None = None
known_of check (Some before) = if bytes_eq before.uid check.uid && bytes_eq before.gid check.gid then Some before else None

abbrev pub some_text : List ℕ → Option (List ℕ)
some_text text = if length text == 0 then None else Some text

abbrev pub groups_in : Option BeforeTexts → Option (List ℕ)
groups_in known = option_and_then (λ before. some_text before.groups) known

abbrev pub path_known : Option BeforeTexts → Option (List ℕ)
path_known known = option_and_then (λ before. before.path) known

-- what the question of a check has beside what it says itself: the file system, the path where one is known, and the caller's groups where
-- there are some
pub record GivenTexts : Type 0 where
  pub fs : List ℕ
  pub path : Option (List ℕ)
  pub groups : Option (List ℕ)

abbrev pub given_texts : List ℕ → Option (List ℕ) → Option (List ℕ) → GivenTexts
given_texts fs path groups = record { fs = fs; path = path; groups = groups }

-- the same of what the code has
abbrev pub given_texts_of : Given → GivenTexts
given_texts_of g = given_texts g.fs.now (option_map (λ path. path.now) g.path) (option_map (λ groups. groups.now) g.groups)

-- by this name of a file system, where the check has none, and what is known of it: a check with a name has no path of its own
abbrev pub given_of : List ℕ → Option (List ℕ) → Option BeforeTexts → CheckTexts → GivenTexts
given_of fs None known check = given_texts fs (Some check.inode.path) (groups_in known)
given_of fs (Some name) known check = given_texts name (path_known known) (groups_in known)

-- what a line says of the next check, if it is such a line
abbrev pub said_before : List ℕ → Option BeforeTexts
said_before line = option_and_then before_of (before_in line)
