-- What follows the words of a text that reads.
use Rattle.std.specs.Prelude.{◌≡◌, ℕ, ◌==◌, ◌&&◌, nat_eq, Bool, true, not, Option, Some, None, List, [], ◌∷◌, ◌++◌, drop, codes, IsTrue, IsFalse}
use Rattle.std.specs.Prelude.{if◌then◌else◌}
use Rattle.std.specs.List.{starts_with}
use Rattle.byte_sets.specs.Sets.{is_white}
use Rattle.capspec.specs.Bytes.{ends_grant, ends_word}
use Rattle.capspec.specs.Grants.{AreWordsOf}
use Rattle.capspec.specs.Items.{Item}
use Rattle.capspec.specs.Words.{goes_on, next}
use Rattle.capspec.specs.declared.items.Key.{Key}
use Rattle.capspec.specs.declared.items.Key.TheVariants as keys
use Rattle.policy_analysis.specs.declared.unread.Unread.{Unread}
use Rattle.policy_analysis.specs.declared.unread.Unread.TheVariants.{AnyFileSystem, WhiteSpace}
use Rattle.policy_analysis.specs.Ceph16Syntax.{GrantText, Stands, wrong_order}

-- a word can end here; a comma with a digit behind it belongs to a gids item
abbrev pub can_end : List ℕ → Bool
can_end text = ends_word text && not (goes_on text)

-- what follows the word at the front of a text
abbrev pub behind_word : List ℕ → List ℕ
behind_word [] = []
behind_word (b ∷ bs) = if can_end (b ∷ bs) then b ∷ bs else behind_word bs

-- what follows the next quote of this kind
abbrev pub behind_quote : ℕ → List ℕ → List ℕ
behind_quote quote [] = []
behind_quote quote (b ∷ bs) = if b == quote then bs else behind_quote quote bs

-- what follows the item at the front of a text
abbrev pub behind_item : List ℕ → List ℕ
behind_item text =
    if starts_with nat_eq text (codes "path=\"") then behind_quote 34 (drop 6 text)
    else (if starts_with nat_eq text (codes "path='") then behind_quote 39 (drop 6 text) else behind_word text)

-- whether the white space at the front of a text is spaces alone
abbrev pub has_spaces : List ℕ → Bool
has_spaces [] = true
has_spaces (b ∷ bs) = if b == 32 then has_spaces bs else not (is_white b)

-- what is wrong with the white space before a separator, which is at the front of this text, or with that behind it
abbrev pub wrong_between : List ℕ → List ℕ → Option Unread
wrong_between before behind = if has_spaces before && has_spaces behind then None else Some WhiteSpace

-- what the item at the front of a text speaks of, by its first letter
abbrev pub key_at : List ℕ → Key
key_at [] = keys.RootSquash
key_at (b ∷ bs) = if b == 102 then keys.FsName else (if b == 112 then keys.Path else (if b == 117 then keys.Uid else (if b == 103 then keys.Gids else keys.RootSquash)))

-- why Ceph 16 does not read it behind one with the last key
abbrev pub wrong_at : Option Key → List ℕ → Option Unread
wrong_at last text = if starts_with nat_eq text (codes "fsname=*") then Some AnyFileSystem else wrong_order last (key_at text)

-- The text has these items at its front, and the tail follows, in which the grant ends.
pub record HasItems (text : List ℕ) (items : List Item) (tail : List ℕ) : Type 0 where
  pub words : List ℕ
  pub parts : text ≡ words ++ tail
  pub are_words : AreWordsOf words items
  pub word_ends : IsTrue (can_end tail)
  pub grant_ends : IsTrue (ends_grant (next tail))

-- A grant that stands so is at the front of the text, and the end follows.
pub record Begins (text : List ℕ) (s : GrantText) (end : List ℕ) : Type 0 where
  pub piece : List ℕ
  pub parts : text ≡ piece ++ end
  pub stands : Stands piece s
  pub ends : IsTrue (ends_grant end)
  pub stops : IsFalse (goes_on end)
