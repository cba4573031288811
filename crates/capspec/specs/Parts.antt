-- What the readers of a grant's parts take from the front of a text.
use Rattle.std.specs.Prelude.{◌≡◌, ◌<◌, ℕ, None, Ok, List, [], ◌++◌, IsTrue}
use Rattle.capspec.specs.declared.draft.Draft.{Draft}
use Rattle.capspec.specs.Bytes.{ends_grant}
use Rattle.capspec.specs.Draft.{grant_of}
use Rattle.capspec.specs.Items.{Item}
use Rattle.capspec.specs.Faults.{GrantGives, ItemsGive}
use Rattle.capspec.specs.Grants.{AreItemsOf, AreWordsOf, IsBlank, IsGrant}

-- The items up to the end of a grant, with the white space behind them; with the flags that old has, they are the grant of new.
pub record ReadsItems (old : Draft) (text rest : List ℕ) (new : Draft) : Type 0 where
  pub words : List ℕ
  pub after : List ℕ
  pub items : List Item
  pub parts : text ≡ words ++ (after ++ rest)
  pub are_words : AreWordsOf words items
  pub blank_after : IsBlank after
  pub ends : IsTrue (ends_grant rest)
  pub same_flags : new.flags ≡ old.flags
  pub are_items : AreItemsOf items (grant_of new)
  pub gives : ItemsGive [] None text (Ok (items, rest))

-- one grant, and the rest at whose front it ends
pub record ReadsGrant (text : List ℕ) (draft : Draft) (rest : List ℕ) : Type 0 where
  pub front : List ℕ
  pub parts : text ≡ front ++ rest
  pub is_grant : IsGrant front (grant_of draft)
  pub ends : IsTrue (ends_grant rest)
  pub gives : (before : ℕ) → before < 16 → GrantGives before text (Ok (grant_of draft, rest))
