-- A release reads no more grants in a text than that has bytes, and one; and what it does not read stands in it.
use Rattle.std.proofs.Common.{◌≡◌, ℕ, zero, suc, ◌+◌, ◌≤◌, ◌^◌, Bool, true, false, Option, Some, None, List, [], ◌∷◌, ◌++◌, length, take, drop, subst, arith, length-append}
use Rattle.std.specs.Prelude.{IfSome, Result, Ok, Err, bytes_eq, codes, ◌==◌, ◌||◌, nat_le, option_map, option_and_then, if◌then◌else◌}
use Rattle.std.specs.Option.{option_or}
use Rattle.std.specs.Str.Parse.{digits_value}
use Rattle.std.proofs.lemmas.Bool.{cond_both}
use Rattle.std.proofs.lemmas.List.{length-drop}
use Rattle.byte_sets.specs.Sets.{begins, is_any_white, is_bare_path_byte, is_fs_name_byte, is_network_byte, is_white}
use Rattle.capspec.specs.Words.{front_while, is_digit, rest_while}
use Rattle.release_grants.specs.declared.flags.Flags.{Flags}
use Rattle.release_grants.specs.declared.grant.Grant.{Grant}
use Rattle.release_grants.specs.declared.reading.Unread.{Unread}
use Rattle.release_grants.specs.declared.switches.Switches.{Switches}
use Rattle.release_grants.specs.Items.{closed, everything, flags_at, fsname_at, gids_at, letter_at, letters_at, more_numbers, network_at, next_number, numbers_of, path_at, path_value_at}
use Rattle.release_grants.specs.Items.{quoted_at, read_alone, root_squash_at, squash_of, uid_at}
use Rattle.release_grants.specs.Reading.{gids_if, grant_at, grants_behind, items_at, more_grants, next_grant, plain_allow, read_of, takes_gids, takes_uid, uid_if, unread_from, whole}
use Rattle.release_grants.specs.Texts.{behind, behind_white, behind_word, if_found, is_not, number_at, or_none, some_while}

-- ---- what is left of a text

-- if something is, it is no longer than so
abbrev IsRest : ℕ → Option (List ℕ) → Type 0
IsRest most rest = IfSome rest (λ text. length text ≤ most)

-- the same behind what was found
abbrev IsLeft : {A : Type 0} → ℕ → Option (A × List ℕ) → Type 0
IsLeft most found = IfSome found (λ f. length f.1 ≤ most)

short_while : (test : ℕ → Bool) (text : List ℕ) → length (rest_while test text) ≤ length text
short_while test [] = omega arith
short_while test (b ∷ text) = cond_both (test b) (rest_while test text) (b ∷ text) (λ (t : List ℕ). length t ≤ length (b ∷ text)) (λ passes. omega (arith, short_while test text)) (λ stops. omega arith)

then_rest : (most : ℕ) (rest : Option (List ℕ)) (next : List ℕ → Option (List ℕ)) → IsRest most rest → ((text : List ℕ) → length text ≤ most → IsRest most (next text)) → IsRest most (option_and_then next rest)
then_rest most None next short each = tt
then_rest most (Some text) next short each = each text short

then_left : {A : Type 0} (most : ℕ) (rest : Option (List ℕ)) (next : List ℕ → Option (A × List ℕ)) → IsRest most rest → ((text : List ℕ) → length text ≤ most → IsLeft most (next text)) → IsLeft most (option_and_then next rest)
then_left most None next short each = tt
then_left most (Some text) next short each = each text short

made_left : {A : Type 0} (most : ℕ) (rest : Option (List ℕ)) (made : List ℕ → A × List ℕ) → IsRest most rest → ((text : List ℕ) → length text ≤ most → length (made text).1 ≤ most) → IsLeft most (option_map made rest)
made_left most None made short each = tt
made_left most (Some text) made short each = each text short

or_left : {A : Type 0} (most : ℕ) (a b : Option (A × List ℕ)) → IsLeft most a → IsLeft most b → IsLeft most (option_or a b)
or_left most None b left also = also
or_left most (Some found) b left also = left

or_text : {A : Type 0} (most : ℕ) (found : Option (A × List ℕ)) (text : List ℕ) → IsLeft most found → length text ≤ most → length (or_none found text).1 ≤ most
or_text most None text left short = short
or_text most (Some (value, rest)) text left short = left

-- ---- words and items

module _ (most : ℕ) where
  word_rest : (word text : List ℕ) → length text ≤ most → IsRest most (behind word text)
  word_rest word text short = cond_both (bytes_eq (take (length word) text) word) (Some (drop (length word) text)) None (IsRest most) (λ is. omega (arith, length-drop (length word) text, short)) (λ other. tt)

  white_rest : (text : List ℕ) → length text ≤ most → IsRest most (behind_white text)
  white_rest text short = cond_both (begins is_white text) (Some (rest_while is_white text)) None (IsRest most) (λ is. omega (arith, short_while is_white text, short)) (λ other. tt)

  behind_rest : (word text : List ℕ) → length text ≤ most → IsRest most (behind_word word text)
  behind_rest word text short = then_rest most (behind_white text) (behind word) (white_rest text short) (word_rest word)

  some_left : (test : ℕ → Bool) (text : List ℕ) → length text ≤ most → IsLeft most (some_while test text)
  some_left test text short = cond_both (begins test text) (Some (front_while test text, rest_while test text)) None (IsLeft {A = List ℕ} most) (λ is. omega (arith, short_while test text, short)) (λ other. tt)

  number_left : (text : List ℕ) → length text ≤ most → IsLeft most (number_at text)
  number_left text short =
      let digits : List ℕ = front_while is_digit text in
      cond_both ((length digits == 0) || nat_le (2 ^ 32) (digits_value 10 digits)) None (Some (digits_value 10 digits, rest_while is_digit text)) (IsLeft {A = ℕ} most) (λ none. tt) (λ fits. omega (arith, short_while is_digit text, short))

  letter_left : (letter : ℕ) (text : List ℕ) → length text ≤ most → length (letter_at letter text).1 ≤ most
  letter_left letter [] short = short
  letter_left letter (b ∷ text) short = cond_both (b == letter) (true, text) (false, b ∷ text) (λ (found : Bool × List ℕ). length found.1 ≤ most) (λ is. omega (arith, short)) (λ other. short)

  letters_left : (text : List ℕ) → length text ≤ most → length (letters_at text).1 ≤ most
  letters_left text short =
      let f = letter_at 102 text in
      let p = letter_at 112 f.1 in
      letter_left 115 p.1 (letter_left 112 f.1 (letter_left 102 text short))

  flags_left : (text : List ℕ) → length text ≤ most → IsLeft most (flags_at text)
  flags_left text short =
      let alone : Option (Flags × List ℕ) = option_map (λ rest. (read_alone, rest)) (behind (codes "r") text) in
      let written : Option (Flags × List ℕ) = option_map letters_at (behind (codes "rw") text) in
      let all : Option (Flags × List ℕ) = option_map (λ rest. (everything, rest)) (behind (codes "all") text) in
      let star : Option (Flags × List ℕ) = option_map (λ rest. (everything, rest)) (behind (codes "*") text) in
      or_left most star (option_or all (option_or written alone)) (made_left most (behind (codes "*") text) (λ rest. (everything, rest)) (word_rest (codes "*") text short) (λ rest s. s))
      (or_left most all (option_or written alone) (made_left most (behind (codes "all") text) (λ rest. (everything, rest)) (word_rest (codes "all") text short) (λ rest s. s))
      (or_left most written alone (made_left most (behind (codes "rw") text) letters_at (word_rest (codes "rw") text short) letters_left)
      (made_left most (behind (codes "r") text) (λ rest. (read_alone, rest)) (word_rest (codes "r") text short) (λ rest s. s))))

  fsname_left : (text : List ℕ) → length text ≤ most → IsLeft most (fsname_at text)
  fsname_left text short = then_left most (behind_word (codes "fsname=") text) (some_while is_fs_name_byte) (behind_rest (codes "fsname=") text short) (some_left is_fs_name_byte)

  closed_left : (path rest : List ℕ) → length rest ≤ most → IsLeft most (closed path rest)
  closed_left path [] short = tt
  closed_left path (quote ∷ rest) short = omega (arith, short)

  quoted_left : (quote : ℕ) (text : List ℕ) → length text ≤ most → IsLeft most (quoted_at quote text)
  quoted_left quote text short =
      then_left most (behind (quote ∷ []) text) (λ inside. closed (front_while (is_not quote) inside) (rest_while (is_not quote) inside)) (word_rest (quote ∷ []) text short)
      (λ inside s. closed_left (front_while (is_not quote) inside) (rest_while (is_not quote) inside) (omega (arith, short_while (is_not quote) inside, s)))

  path_value_left : (text : List ℕ) → length text ≤ most → IsLeft most (path_value_at text)
  path_value_left text short =
      or_left most (quoted_at 34 text) (option_or (quoted_at 39 text) (some_while is_bare_path_byte text)) (quoted_left 34 text short)
      (or_left most (quoted_at 39 text) (some_while is_bare_path_byte text) (quoted_left 39 text short) (some_left is_bare_path_byte text short))

  path_left : (text : List ℕ) → length text ≤ most → IsLeft most (path_at text)
  path_left text short = then_left most (behind_word (codes "path=") text) path_value_at (behind_rest (codes "path=") text short) path_value_left

  squash_left : (rest : Option (List ℕ)) (text : List ℕ) → IsRest most rest → length text ≤ most → length (squash_of rest text).1 ≤ most
  squash_left None text left short = short
  squash_left (Some rest) text left short = left

  uid_left : (text : List ℕ) → length text ≤ most → IsLeft most (uid_at text)
  uid_left text short = then_left most (behind_word (codes "uid=") text) number_at (behind_rest (codes "uid=") text short) number_left

  next_left : (text : List ℕ) → length text ≤ most → IsLeft most (next_number text)
  next_left text short = then_left most (behind (codes ",") text) number_at (word_rest (codes ",") text short) number_left

  numbers_left : (count : ℕ) (numbers text : List ℕ) → length text ≤ most → length (more_numbers count numbers text).1 ≤ most
  numbers_left zero numbers text short = short
  numbers_left (suc count) numbers text short = by_next (numbers_left count) (next_number text) (next_left text short)
    where
      by_next : ((ns rest : List ℕ) → length rest ≤ most → length (more_numbers count ns rest).1 ≤ most) → (next : Option (ℕ × List ℕ)) → IsLeft most next
          → length (if_found next (numbers, text) (λ n. more_numbers count (numbers ++ n.0 ∷ []) n.1)).1 ≤ most
      by_next each None left = short
      by_next each (Some n) left = each (numbers ++ n.0 ∷ []) n.1 left

  gids_left : (first : Option (ℕ × List ℕ)) (text : List ℕ) → IsLeft most first → length text ≤ most → length (numbers_of first text).1 ≤ most
  gids_left None text left short = short
  gids_left (Some (first, rest)) text left short = numbers_left (length rest) (first ∷ []) rest left

  network_left : (text : List ℕ) → length text ≤ most → IsLeft most (network_at text)
  network_left text short =
      then_left most (behind_word (codes "network") text) (λ rest. option_and_then (some_while is_network_byte) (behind_white rest)) (behind_rest (codes "network") text short)
      (λ rest s. then_left most (behind_white rest) (some_while is_network_byte) (white_rest rest s) (some_left is_network_byte))

  uid_if_left : (may : Bool) (text : List ℕ) → length text ≤ most → length (uid_if may text).1 ≤ most
  uid_if_left may text short = cond_both may (or_none (uid_at text) text) (None, text) (λ (found : Option ℕ × List ℕ). length found.1 ≤ most) (λ is. or_text most (uid_at text) text (uid_left text short) short) (λ other. short)

  gids_if_left : (may : Bool) (text : List ℕ) → length text ≤ most → length (gids_if may text).1 ≤ most
  gids_if_left may text short =
      cond_both may (gids_at text) ([], text) (λ (found : List ℕ × List ℕ). length found.1 ≤ most)
      (λ is. gids_left (option_and_then number_at (behind_word (codes "gids=") text)) text (then_left most (behind_word (codes "gids=") text) number_at (behind_rest (codes "gids=") text short) number_left) short) (λ other. short)

  items_left : (switches : Switches) (flags : Flags) (text : List ℕ) → length text ≤ most → length (items_at switches flags text).1 ≤ most
  items_left switches flags text short =
      let fsname = or_none (fsname_at text) text in
      let path = or_none (path_at fsname.1) fsname.1 in
      let root_squash = root_squash_at path.1 in
      let uid = uid_if (takes_uid switches fsname.0 root_squash.0) root_squash.1 in
      let gids = gids_if (takes_gids switches uid.0) uid.1 in
      let first = or_text most (fsname_at text) text (fsname_left text short) short in
      let second = or_text most (path_at fsname.1) fsname.1 (path_left fsname.1 first) first in
      let third = squash_left (behind_word (codes "root_squash") path.1) path.1 (behind_rest (codes "root_squash") path.1 second) second in
      let fourth = uid_if_left (takes_uid switches fsname.0 root_squash.0) root_squash.1 third in
      let fifth = gids_if_left (takes_gids switches uid.0) uid.1 fourth in
      or_text most (network_at gids.1) gids.1 (network_left gids.1 fifth) fifth

  by_flags : (switches : Switches) (found : Option (Flags × List ℕ)) → IsLeft most found → IsLeft most (option_map (λ f. items_at switches f.0 f.1) found)
  by_flags switches None left = tt
  by_flags switches (Some found) left = items_left switches found.0 found.1 left

  grant_left : (switches : Switches) (text : List ℕ) → length text ≤ most → IsLeft most (grant_at switches text)
  grant_left switches text short =
      by_flags switches (option_and_then (λ rest. option_and_then flags_at (behind_white rest)) (behind (codes "allow") text))
      (then_left most (behind (codes "allow") text) (λ rest. option_and_then flags_at (behind_white rest)) (word_rest (codes "allow") text short)
      (λ rest s. then_left most (behind_white rest) flags_at (white_rest rest s) flags_left))

-- ---- grants

few_more : (switches : Switches) (count : ℕ) (grants : List Grant) (text : List ℕ) → length (more_grants switches count grants text).0 ≤ length grants + count
few_more switches zero grants text = omega arith
few_more switches (suc count) grants text = by_next (few_more switches count) (next_grant switches text)
  where
    by_next : ((gs : List Grant) (rest : List ℕ) → length (more_grants switches count gs rest).0 ≤ length gs + count) → (next : Option (Grant × List ℕ))
        → length (if_found next (grants, text) (λ n. more_grants switches count (grants ++ n.0 ∷ []) n.1)).0 ≤ length grants + suc count
    by_next each None = omega arith
    by_next each (Some n) = omega (arith, each (grants ++ n.0 ∷ []) n.1, length-append grants (n.0 ∷ []))

abbrev pub AreFew : ℕ → Result (List Grant) Unread → Type 0
AreFew most (Ok grants) = length grants ≤ most
AreFew most (Err unread) = Unit {0}

few_whole : (most : ℕ) (text : List ℕ) (found : List Grant × List ℕ) → length found.0 ≤ most → AreFew most (whole text found)
few_whole most text found few =
    let left : List ℕ = rest_while is_any_white found.1 in
    cond_both (length left == 0) (Ok found.0) (unread_from text left) (AreFew most) (λ all. few) (λ other. tt)

few_behind : (switches : Switches) (text start : List ℕ) (first : Option (Grant × List ℕ)) → IsLeft (length text) first → AreFew (length text + 1) (grants_behind switches text first start)
few_behind switches text start None left = tt
few_behind switches text start (Some (first, rest)) left =
    few_whole (length text + 1) text (more_grants switches (length rest) (first ∷ []) rest) (omega (arith, left, few_more switches (length rest) (first ∷ []) rest))

pub few_read : (switches : Switches) (text : List ℕ) → AreFew (length text + 1) (read_of switches text)
few_read switches text =
    let start : List ℕ = rest_while is_any_white text in
    cond_both (bytes_eq text (codes "allow")) (Ok (plain_allow ∷ [])) (grants_behind switches text (grant_at switches start) start) (AreFew (length text + 1)) (λ plain. omega arith)
    (λ other. few_behind switches text start (grant_at switches start) (grant_left (length text) switches start (short_while is_any_white text)))

-- ---- the place of what is not read

abbrev IsNear : ℕ → Result (List Grant) Unread → Type 0
IsNear most (Ok grants) = Unit {0}
IsNear most (Err unread) = unread.at ≤ most

near_whole : (text : List ℕ) (found : List Grant × List ℕ) → IsNear (length text) (whole text found)
near_whole text found =
    let left : List ℕ = rest_while is_any_white found.1 in
    cond_both (length left == 0) (Ok found.0) (unread_from text left) (IsNear (length text)) (λ all. tt) (λ some. omega arith)

near_behind : (switches : Switches) (text start : List ℕ) (first : Option (Grant × List ℕ)) → IsNear (length text) (grants_behind switches text first start)
near_behind switches text start None = omega arith
near_behind switches text start (Some (first, rest)) = near_whole text (more_grants switches (length rest) (first ∷ []) rest)

pub near_read : (switches : Switches) (text : List ℕ) (unread : Unread) → read_of switches text ≡ Err unread → unread.at ≤ length text
near_read switches text unread is =
    let start : List ℕ = rest_while is_any_white text in
    subst (IsNear (length text)) is
    (cond_both (bytes_eq text (codes "allow")) (Ok (plain_allow ∷ [])) (grants_behind switches text (grant_at switches start) start) (IsNear (length text)) (λ plain. tt) (λ other. near_behind switches text start (grant_at switches start)))
