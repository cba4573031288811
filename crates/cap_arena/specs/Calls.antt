-- What each call on the lists changes.
use Rattle.std.specs.Prelude.{◌≡◌, ℕ, not, List, [], ◌∷◌, ◌++◌, Some, None, nat_eq, nat_le, filter, if◌then◌else◌}
use Rattle.std.specs.Option.{option_map}
use Rattle.capbits.specs.declared.ids.ClientId.{ClientId}
use Rattle.capbits.specs.declared.ids.Ino.{Ino}
use Rattle.capbits.specs.declared.refusal.Refusal.TheVariants as refusal
use Rattle.capbits.specs.Refusal.{Test, refused_if}
use Rattle.cap_arena.specs.declared.nodes.Node.{Node}
use Rattle.cap_arena.specs.Lists.{ListName, Lists, OfClient, OfInode, OfRecall, belongs, count, keys, node_at}

-- the keys without one
abbrev pub keys_without : List ℕ → ℕ → List ℕ
keys_without ks key = filter (λ k. not (nat_eq key k)) ks

abbrev pub node : {T : Type 0} → ClientId → Ino → T → Node T
node client ino value = record { client = client; ino = ino; value = value }

module _ {T : Type 0} where
  -- there may be one more node
  abbrev pub add_tests : Lists T → List Test
  add_tests t = refused_if (nat_le 65536 (count t)) refusal.Limit ∷ []

  -- the key had no node, has this one, and is the last one of each list into which that belongs
  pub record Adds (old new : Lists T) (key : ℕ) (node : Node T) : Type 0 where
    pub was_free : node_at old key ≡ None
    pub nodes : (k : ℕ) → node_at new k ≡ (if nat_eq k key then Some node else node_at old k)
    pub lists : (name : ListName) → keys new name ≡ (if belongs name node then keys old name ++ key ∷ [] else keys old name)

  -- the key has no node any more, and is in no list
  pub record Removes (old new : Lists T) (key : ℕ) : Type 0 where
    pub nodes : (k : ℕ) → node_at new k ≡ (if nat_eq k key then None else node_at old k)
    pub lists : (name : ListName) → keys new name ≡ keys_without (keys old name) key

  -- the key is the last one in the order of recall, and nothing else changes
  pub record Touches (old new : Lists T) (key : ℕ) : Type 0 where
    pub nodes : (k : ℕ) → node_at new k ≡ node_at old k
    pub recall : keys new OfRecall ≡ keys_without (keys old OfRecall) key ++ key ∷ []
    pub inodes : (ino : Ino) → keys new (OfInode ino) ≡ keys old (OfInode ino)
    pub clients : (client : ClientId) → keys new (OfClient client) ≡ keys old (OfClient client)

  abbrev pub with_value : T → Node T → Node T
  with_value value node = record node { value = value }

  -- the node of the key, if there is one, has this value, and nothing else changes
  pub record Sets (old new : Lists T) (key : ℕ) (value : T) : Type 0 where
    pub nodes : (k : ℕ) → node_at new k ≡ (if nat_eq k key then option_map (with_value value) (node_at old k) else node_at old k)
    pub lists : (name : ListName) → keys new name ≡ keys old name
