-- A check of policy, as a line of the MDS's log has it.
use Rattle.std.specs.Prelude.{ℕ, nat_le, ◌==◌, Bool, true, ◌&&◌, ◌||◌, List, [], ◌∷◌, length, codes, bytes_eq, Option, Some, None, option_map, option_and_then}
use Rattle.std.specs.Prelude.{if◌then◌else◌}
use Rattle.std.specs.List.{join_with_byte, list_all, slice_split}
use Rattle.queries.specs.declared.check.Check.{Check}
use Rattle.queries.specs.declared.check.Head.{Head}
use Rattle.queries.specs.declared.check.Inode.{Inode}
use Rattle.queries.specs.Cuts.{behind_front, cut_first, then_cut, then_cut_closed}

-- the inode of a check, each part as it stands in the line: its path, its owner and its group, its kind and its mode
pub record InodeTexts : Type 0 where
  pub path : List ℕ
  pub owner : List ℕ
  pub group : List ℕ
  pub mode : List ℕ

-- what a check asks, each part as it stands in the line: the inode, the caller, what is asked for, the new owner and the new group, and
-- the client's grants
pub record CheckTexts : Type 0 where
  pub inode : InodeTexts
  pub uid : List ℕ
  pub gid : List ℕ
  pub mask : List ℕ
  pub new_uid : List ℕ
  pub new_gid : List ℕ
  pub grants : List ℕ

abbrev pub inode_texts : List ℕ → List ℕ → List ℕ → List ℕ → InodeTexts
inode_texts path owner group mode = record { path = path; owner = owner; group = group; mode = mode }

abbrev pub check_texts : InodeTexts → List ℕ → List ℕ → List ℕ → List ℕ → List ℕ → List ℕ → CheckTexts
check_texts inode uid gid mask new_uid new_gid grants =
    record { inode = inode; uid = uid; gid = gid; mask = mask; new_uid = new_uid; new_gid = new_gid; grants = grants }

-- the same of what the code has
abbrev pub inode_texts_of : Inode → InodeTexts
inode_texts_of i = inode_texts i.path.now i.owner.now i.group.now i.mode.now

abbrev pub texts_of : Check → CheckTexts
texts_of c = check_texts (inode_texts_of c.inode) c.uid.now c.gid.now c.mask.now c.new_uid.now c.new_gid.now c.grants.now

-- ---- which lines are checks

-- the words of a text: there is one space between each two
abbrev pub is_space : ℕ → Bool
is_space b = b == 32

abbrev pub words : List ℕ → List (List ℕ)
words text = slice_split is_space text

abbrev pub spaced : List (List ℕ) → List ℕ
spaced some = join_with_byte 32 some

-- 0 to 9, and a to f
abbrev pub is_hex_digit : ℕ → Bool
is_hex_digit b = (nat_le 48 b && nat_le b 57) || (nat_le 97 b && nat_le b 102)

-- the number of a thread to the base 16, which an MDS logs before the level of a message
abbrev pub is_thread : List ℕ → Bool
is_thread word = nat_le 8 (length word) && list_all is_hex_digit word

-- the words behind the first that is one
abbrev pub words_behind_thread : List (List ℕ) → Option (List (List ℕ))
words_behind_thread [] = None
words_behind_thread (word ∷ more) = if is_thread word then Some more else words_behind_thread more

-- the text behind the first thread in it
abbrev pub behind_thread : List ℕ → Option (List ℕ)
behind_thread text = option_map spaced (words_behind_thread (words text))

-- what stands there where a thread does is the level and the name of a message, and so no other message begins
abbrev pub is_level : List ℕ → Option (List ℕ) → Bool
is_level level None = true
is_level level (Some text) = bytes_eq text level

-- a message of this level and name goes on behind this
abbrev pub may_stand_before : List ℕ → List ℕ → Bool
may_stand_before level text = is_level level (behind_thread text)

-- how a check begins: behind this stands its inode, in front of it the name of its file system, if the MDS writes that
abbrev pub HeadTexts : Type 0
HeadTexts = Option (List ℕ) × List ℕ

-- the same of what the code has
abbrev pub head_texts_of : Head → HeadTexts
head_texts_of head = (option_map (λ fs. fs.now) head.fs, head.parts.now)

-- Ceph 20 has `fs_name` and the name there, others nothing
abbrev pub head_with : List ℕ → List ℕ → Option HeadTexts
head_with front behind =
    if length front == 0 then Some (None, behind) else option_map (λ name. (Some name, behind)) (behind_front (codes "fs_name ") front)

-- how what stands behind the first `is_capable` of a line begins
abbrev pub head_of : List ℕ → Option HeadTexts
head_of text = option_and_then (λ parts. head_with parts.0 parts.1) (cut_first (codes " inode(path ") text)

-- the line has `is_capable`, and what stands before and behind its first place
abbrev pub check_in : List ℕ → Option (List ℕ × List ℕ)
check_in line = cut_first (codes "is_capable") line

-- the head of the check, if it has the form of one
abbrev pub head_in : List ℕ × List ℕ → Option HeadTexts
head_in parts = if may_stand_before (codes "10 MDSAuthCap ") parts.0 then head_of parts.1 else None

-- ---- what a check asks

abbrev pub inode_of : List ℕ → Option InodeTexts
inode_of text =
    then_cut (codes " mode ") text (λ text mode.
    then_cut (codes ":") text (λ text group.
    then_cut (codes " owner ") text (λ path owner.
    Some (inode_texts path owner group mode))))

-- The parts of a check, of what stands behind its head. They are cut off from the end on, each at the last place of the word before it; the
-- grants where the double quotes behind that place are closed, so that no path in them is taken for a part.
abbrev pub check_of : List ℕ → Option CheckTexts
check_of text =
    then_cut (codes "]") text (λ text behind.
    then_cut_closed (codes " cap: MDSAuthCaps[") text (λ text grants.
    then_cut (codes ":") text (λ text new_gid.
    then_cut (codes " new ") text (λ text new_uid.
    then_cut (codes " mask ") text (λ text mask.
    then_cut (codes ":") text (λ text gid.
    then_cut (codes ") by caller ") text (λ text uid.
    option_map (λ inode. check_texts inode uid gid mask new_uid new_gid grants) (inode_of text))))))))
