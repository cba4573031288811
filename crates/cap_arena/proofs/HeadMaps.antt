-- The ends of the lists of inodes and clients, as maps and by names.
use Rattle.std.proofs.Common.{◌≡◌, ℕ, Bool, true, false, cond, Option, Some, None, IsSome, is_some, refl, sym, ap, subst, ◌∙◌, nat_eq}
use Rattle.std.specs.Cmp.{nat_cmp_total}
use Rattle.std.proofs.lemmas.Bool.{eq-eqb, eqb-true}
use Rattle.std.specs.FinMap as map
use Rattle.std.specs.FinMap.{nat_cmp-IsAntisymmetric}
use Rattle.capbits.specs.declared.ids.ClientId.{ClientId}
use Rattle.capbits.specs.declared.ids.Ino.{Ino}
use Rattle.capbits.proofs.Maps.{insert-at, insert-here, put_back, remove-at}
use Rattle.cap_arena.specs.declared.nodes.Ends.{Ends}
use Rattle.cap_arena.specs.Heads.{Heads, ends_at, ends_or_none, kept, kept_if, no_ends, with_room, without_room}
use Rattle.cap_arena.specs.Lists.{KeepsNoEmpty, ListName, OfClient, OfInode, OfRecall}

-- ends that are kept, and ends that go
pub get-kept : (m : Heads) (k : ℕ) (ends : Ends) → is_some ends.first ≡ true → (q : ℕ) → map.get (map.insert m k ends) q ≡ cond (nat_eq k q) (kept ends) (map.get m q)
get-kept m k ends there q = insert-at m k q ends ∙ by_first ends.first there
  where
    by_first : (f : Option ℕ) → is_some f ≡ true → cond (nat_eq k q) (Some ends) (map.get m q) ≡ cond (nat_eq k q) (kept_if f ends) (map.get m q)
    by_first None is = absurd (cc)
    by_first (Some key) is = refl

pub get-gone : (m : Heads) (k : ℕ) (ends : Ends) → is_some ends.first ≡ false → (q : ℕ) → map.get (map.remove (map.insert m k ends) k) q ≡ cond (nat_eq k q) (kept ends) (map.get m q)
get-gone m k ends none q = remove-at (map.insert m k ends) k q ∙ ap (cond (nat_eq k q) None) (insert-at m k q ends) ∙ out (nat_eq k q) ∙ by_first ends.first none
  where
    out : (b : Bool) → cond b None (cond b (Some ends) (map.get m q)) ≡ cond b None (map.get m q)
    out true = refl
    out false = refl

    by_first : (f : Option ℕ) → is_some f ≡ false → cond (nat_eq k q) None (map.get m q) ≡ cond (nat_eq k q) (kept_if f ends) (map.get m q)
    by_first None is = refl
    by_first (Some key) is = absurd (cc)

-- ---- room for the ends of a list

pub room_there : (m : Heads) (k : ℕ) → IsSome (map.get (with_room m k) k)
room_there m k = by_case (map.get m k) refl
  where
    by_case : (o : Option Ends) → map.get m k ≡ o → IsSome (map.get (with_room m k) k)
    by_case (Some ends) is = subst (λ o. IsSome (map.get (cond (is_some o) m (map.insert m k no_ends)) k)) (sym is) (subst IsSome (sym is) refl)
    by_case None is = subst (λ o. IsSome (map.get (cond (is_some o) m (map.insert m k no_ends)) k)) (sym is) (subst IsSome (sym (insert-here nat_cmp_total nat_cmp-IsAntisymmetric m k no_ends)) refl)

pub room-others : (m : Heads) (k q : ℕ) → nat_eq k q ≡ false → map.get (with_room m k) q ≡ map.get m q
room-others m k q off = by_case (is_some (map.get m k))
  where
    by_case : (b : Bool) → map.get (cond b m (map.insert m k no_ends)) q ≡ map.get m q
    by_case true = refl
    by_case false = insert-at m k q no_ends ∙ ap (λ b. cond b (Some no_ends) (map.get m q)) off

-- it changes no ends
pub room-ends : (m : Heads) (k q : ℕ) → ends_at (with_room m k) q ≡ ends_at m q
room-ends m k q = by_case (map.get m k) refl
  where
    by_test : (b : Bool) → nat_eq k q ≡ b → map.get m k ≡ None → ends_or_none (cond b (Some no_ends) (map.get m q)) ≡ ends_at m q
    by_test true e is = sym (ap (λ x. ends_at m x) (sym (eqb-true k q e)) ∙ ap ends_or_none is)
    by_test false e is = refl

    by_case : (o : Option Ends) → map.get m k ≡ o → ends_at (with_room m k) q ≡ ends_at m q
    by_case (Some ends) is = ap (λ o. ends_at (cond (is_some o) m (map.insert m k no_ends)) q) is
    by_case None is = ap (λ o. ends_at (cond (is_some o) m (map.insert m k no_ends)) q) is ∙ ap ends_or_none (insert-at m k q no_ends) ∙ by_test (nat_eq k q) refl is

-- given back, it leaves the map as it was
pub room-back : (m : Heads) (k : ℕ) → KeepsNoEmpty m → without_room (with_room m k) k ≡ m
room-back m k keeps = by_case (map.get m k) refl
  where
    by_case : (o : Option Ends) → map.get m k ≡ o → without_room (with_room m k) k ≡ m
    by_case (Some ends) is =
        let some : is_some (ends_at m k).first ≡ true = ap (λ o. is_some (ends_or_none o).first) is ∙ keeps k ends is in
        ap (λ o. without_room (cond (is_some o) m (map.insert m k no_ends)) k) is ∙ ap (λ b. cond b m (map.remove m k)) some
    by_case None is =
        let more : Heads = map.insert m k no_ends in
        let none : is_some (ends_at more k).first ≡ false = ap (λ o. is_some (ends_or_none o).first) (insert-here nat_cmp_total nat_cmp-IsAntisymmetric m k no_ends) in
        ap (λ o. without_room (cond (is_some o) m more) k) is ∙ ap (λ b. cond b more (map.remove more k)) none
        ∙ put_back nat_cmp_total nat_cmp-IsAntisymmetric m k no_ends is

-- the ends of each list
abbrev pub heads_of : Ends → (ℕ → Ends) → (ℕ → Ends) → ListName → Ends
heads_of recall inodes clients (OfInode ino) = inodes ino.0
heads_of recall inodes clients (OfClient client) = clients client.0
heads_of recall inodes clients OfRecall = recall

-- one list has other ends
abbrev pub with_ends : (ℕ → Ends) → ℕ → Ends → ℕ → Ends
with_ends heads number ends q = cond (nat_eq number q) ends (heads q)

pub with_ends-same : (heads : ℕ → Ends) (number : ℕ) (ends : Ends) → with_ends heads number ends number ≡ ends
with_ends-same heads number ends = ap (λ b. cond b ends (heads number)) (eq-eqb number number refl)

pub with_ends-inode : (r : Ends) (i c : ℕ → Ends) (ino : Ino) (ends : Ends) (name : ListName) → (name ≡ OfInode ino → ⊥) → heads_of r (with_ends i ino.0 ends) c name ≡ heads_of r i c name
with_ends-inode r i c ino ends (OfInode j) differ = by_test (nat_eq ino.0 j.0) refl
  where
    by_test : (b : Bool) → nat_eq ino.0 j.0 ≡ b → cond b ends (i j.0) ≡ i j.0
    by_test true e = absurd (differ (λ t. OfInode (record { 0 = sym (eqb-true ino.0 j.0 e) t })))
    by_test false e = refl
with_ends-inode r i c ino ends (OfClient j) differ = refl
with_ends-inode r i c ino ends OfRecall differ = refl

pub with_ends-client : (r : Ends) (i c : ℕ → Ends) (client : ClientId) (ends : Ends) (name : ListName) → (name ≡ OfClient client → ⊥) → heads_of r i (with_ends c client.0 ends) name ≡ heads_of r i c name
with_ends-client r i c client ends (OfClient j) differ = by_test (nat_eq client.0 j.0) refl
  where
    by_test : (b : Bool) → nat_eq client.0 j.0 ≡ b → cond b ends (c j.0) ≡ c j.0
    by_test true e = absurd (differ (λ t. OfClient (record { 0 = sym (eqb-true client.0 j.0 e) t })))
    by_test false e = refl
with_ends-client r i c client ends (OfInode j) differ = refl
with_ends-client r i c client ends OfRecall differ = refl

pub recall_differs : (r r' : Ends) (i c : ℕ → Ends) (name : ListName) → (name ≡ OfRecall → ⊥) → heads_of r' i c name ≡ heads_of r i c name
recall_differs r r' i c (OfInode j) differ = refl
recall_differs r r' i c (OfClient j) differ = refl
recall_differs r r' i c OfRecall differ = absurd (differ refl)
