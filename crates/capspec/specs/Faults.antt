-- The first fault of a text: its words are tested from the left, and each grant when it has ended.
use Rattle.std.specs.Prelude.{◌≡◌, ◌<◌, ◌-◌, ◌⊎◌, ℕ, Bool, true, false, Option, Some, None, Result, Ok, Err, List, [], ◌∷◌, ◌++◌, length, codes, filter_map}
use Rattle.std.specs.Prelude.{IsTrue, IsFalse, if◌then◌else◌}
use Rattle.std.specs.List.{list_all}
use Rattle.capspec.specs.declared.fault.SpecFault.{SpecFault}
use Rattle.capspec.specs.declared.fault.SpecFaultKind.{SpecFaultKind}
use Rattle.capspec.specs.declared.fault.SpecFaultKind.TheVariants.{Empty, GidsWithoutUid, NoMemory}
use Rattle.capspec.specs.declared.flags.Flags4.{Flags4}
use Rattle.capspec.specs.declared.grant.Grant.{Grant}
use Rattle.capspec.specs.declared.items.Key.{Key}
use Rattle.capspec.specs.declared.items.Key.TheVariants as keys
use Rattle.capspec.specs.declared.reading.Refusal.{Refusal}
use Rattle.byte_sets.specs.Sets.{is_white}
use Rattle.capspec.specs.Bytes.{ends_grant}
use Rattle.capspec.specs.Flags.{IsFlags}
use Rattle.capspec.specs.Grants.{AreItemsOf, fsname_in, gids_in, path_in, root_squash_in, uid_in}
use Rattle.capspec.specs.Items.{Item, key_of}
use Rattle.capspec.specs.Items.Item.{Gids}
use Rattle.capspec.specs.Words.{BeginsWithItem, IsWrongFirst, IsWrongItem, IsWrongSecond, behind_word, next, plain_word}

-- the fault at the front of what is left of a text
abbrev pub fault_at : List ℕ → SpecFaultKind → Refusal
fault_at left kind = record { left = length left; kind = kind }

abbrev pub is_said : {A : Type 0} → List A → Bool
is_said [] = false
is_said (said ∷ more) = true

-- whether one of the items has the key
abbrev pub stood : List Item → Key → Bool
stood items keys.FsName = is_said (filter_map fsname_in items)
stood items keys.Path = is_said (filter_map path_in items)
stood items keys.Uid = is_said (filter_map uid_in items)
stood items keys.Gids = is_said (filter_map gids_in items)
stood items keys.RootSquash = is_said (filter_map root_squash_in items)

-- the text from the gids item on, if one stood before, where the item stands in front of from
abbrev pub gids_item : Option (List ℕ) → Item → List ℕ → Option (List ℕ)
gids_item before (Gids gids) from = Some from
gids_item before item from = before

-- the test of a grant that has ended before rest
abbrev pub grant_end : List Item → Option (List ℕ) → List ℕ → Result (List Item × List ℕ) Refusal
grant_end items None rest = Ok (items, rest)
grant_end items (Some gids_item) rest = if stood items keys.Uid then Ok (items, rest) else Err (fault_at gids_item GidsWithoutUid)

-- What the tests of a grant come to from a place in its text on: its items and the rest, or the first fault. Its arguments are the items
-- before that place, and the text from the gids item on if there is one among them.
pub data ItemsGive : List Item → Option (List ℕ) → List ℕ → Result (List Item × List ℕ) Refusal → Type 0 where
  grant_ends : {items : List Item} {gids : Option (List ℕ)} {text : List ℕ} → IsTrue (ends_grant (next text)) → ItemsGive items gids text (grant_end items gids (next text))
  wrong_item : {items : List Item} {gids : Option (List ℕ)} {text : List ℕ} {kind : SpecFaultKind} → IsFalse (ends_grant (next text)) → IsWrongItem (stood items) (next text) kind → ItemsGive items gids text (Err (fault_at (next text) kind))
  next_item : {items : List Item} {gids : Option (List ℕ)} {text : List ℕ} {result : Result (List Item × List ℕ) Refusal} (item : Item) (rest : List ℕ)
      → IsFalse (ends_grant (next text)) → IsFalse (stood items (key_of item)) → BeginsWithItem (next text) item rest → ItemsGive (items ++ item ∷ []) (gids_item gids item (next text)) rest result → ItemsGive items gids text result

-- the text from the second word of a grant on
abbrev pub second : List ℕ → List ℕ
second text = next (behind_word (next text))

-- the first word of a grant is right
abbrev pub IsRightFirst : ℕ → List ℕ → Type 0
IsRightFirst before text = (before < 16) × (plain_word (next text) ≡ codes "allow")

-- What the tests of a grant come to, with so many grants before it: the grant and the rest, or the first fault.
pub data GrantGives (before : ℕ) (text : List ℕ) : Result (Grant × List ℕ) Refusal → Type 0 where
  wrong_first : {kind : SpecFaultKind} → IsWrongFirst before (plain_word (next text)) kind → GrantGives before text (Err (fault_at (next text) kind))
  wrong_second : {kind : SpecFaultKind} → IsRightFirst before text → IsWrongSecond (plain_word (second text)) kind → GrantGives before text (Err (fault_at (second text) kind))
  wrong_items : {refusal : Refusal} (flags : Flags4) → IsRightFirst before text → IsFlags (plain_word (second text)) flags → ItemsGive [] None (behind_word (second text)) (Err refusal) → GrantGives before text (Err refusal)
  right_grant : {grant : Grant} {rest : List ℕ} (items : List Item) → IsRightFirst before text → IsFlags (plain_word (second text)) grant.flags → ItemsGive [] None (behind_word (second text)) (Ok (items, rest)) → AreItemsOf items grant → GrantGives before text (Ok (grant, rest))

-- What the tests of the grants from a place on come to, behind these: all grants, or the first fault.
pub data GrantsGive : List Grant → List ℕ → Result (List Grant) Refusal → Type 0 where
  wrong_grant : {grants : List Grant} {text : List ℕ} {refusal : Refusal} → GrantGives (length grants) text (Err refusal) → GrantsGive grants text (Err refusal)
  last_grant : {grants : List Grant} {text : List ℕ} {grant : Grant} → GrantGives (length grants) text (Ok (grant, [])) → GrantsGive grants text (Ok (grants ++ grant ∷ []))
  next_grant : {grants : List Grant} {text : List ℕ} {result : Result (List Grant) Refusal} (grant : Grant) (mark : ℕ) (rest : List ℕ) → GrantGives (length grants) text (Ok (grant, mark ∷ rest)) → GrantsGive (grants ++ grant ∷ []) rest result → GrantsGive grants text result

-- what the tests of a whole text come to
abbrev pub TestsGive : List ℕ → Result (List Grant) Refusal → Type 0
TestsGive text result =
    (IsTrue (list_all is_white text) × (result ≡ Err (fault_at [] Empty)))
    ⊎ (IsFalse (list_all is_white text) × GrantsGive [] text result)

-- the fault is the first of the text
abbrev pub IsFault : List ℕ → SpecFault → Type 0
IsFault text fault = (refusal : Refusal) × TestsGive text (Err refusal) × (fault ≡ record { at = length text - refusal.left; kind = refusal.kind })

-- want of memory: no fault of the text
abbrev pub IsNoMemory : SpecFault → Type 0
IsNoMemory fault = fault ≡ record { at = 0; kind = NoMemory }
