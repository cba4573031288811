use Rattle.std.proofs.Common.{◌≡◌, ℕ, true, ◌∷◌, ◌∙◌, sym, ap, subst}
use Rattle.cap_arena.specs.Walks.{is_among, key_after}
use Rattle.cap_arena.specs.Lists.{Lists, OfClient, OfInode, keys}
use Rattle.captable.specs.declared.entry.Slot.{Slot}
use Rattle.captable.specs.Walks.{IsPlaceOf, name_of, rows_from}
use Rattle.captable.proofs.WalkOn.{after-in, next-of-client, next-of-inode, rows-next}
use Rattle.captable.proofs.walk.Walk.next.Goals as goal
use Rattle.captable.proofs.walk.Walk.next.Goals.{in-Client, in-Inode}

-- the key of the next node is one of the list
listed : (c : goal.After-row_of) → is_among (keys c.self.inside.lists.now (name_of c.self.inside.over)) c.in_ok-key.key ≡ true
listed c = subst (IsPlaceOf c.self.inside.lists.now (name_of c.self.inside.over)) c.in_ok-key.was c.self.invariant

-- the place after it
place-after : (c : goal.After-row_of) → c.match-self.self ≡ key_after (keys c.self.inside.lists.now (name_of c.self.inside.over)) c.in_ok-key.key
place-after c =
    let t : Lists Slot = c.self.inside.lists.now in
    let key : ℕ = c.in_ok-key.key in
    elim c.match-self.branch [
      | in-Client w ↦ (let own : is_among (keys t (OfClient w.in-Client._client)) key ≡ true = subst (λ x. is_among (keys t (name_of x)) key ≡ true) w.in-Client.is (listed c) in
          w.self-is ∙ w.next_of_client-self-inside.ensures.next
          ∙ next-of-client t c.get.ensures.sound w.in-Client._client key c.in_ok-node.node (sym c.in_ok-node.ensures.node) own ∙ ap (λ x. key_after (keys t (name_of x)) key) (sym w.in-Client.is))
      | in-Inode w ↦ (let own : is_among (keys t (OfInode w.in-Inode._ino)) key ≡ true = subst (λ x. is_among (keys t (name_of x)) key ≡ true) w.in-Inode.is (listed c) in
          w.self-is ∙ w.next_of_ino-self-inside.ensures.next
          ∙ next-of-inode t c.get.ensures.sound w.in-Inode._ino key c.in_ok-node.node (sym c.in_ok-node.ensures.node) own ∙ ap (λ x. key_after (keys t (name_of x)) key) (sym w.in-Inode.is))
    ]

pub invariant_of-self : goal.invariant_of-self
invariant_of-self c =
    let t : Lists Slot = c.self.inside.lists.now in
    subst (IsPlaceOf t (name_of c.self.inside.over)) (sym (place-after c)) (after-in (keys t (name_of c.self.inside.over)) c.in_ok-key.key)

pub returns-clause-some : goal.returns-clause-some
returns-clause-some c =
    let t : Lists Slot = c.self.inside.lists.now in
    let name = name_of c.self.inside.over in
    sym c.self.view_is ∙ ap (rows_from t name) c.in_ok-key.was
    ∙ rows-next t c.get.ensures.sound name c.in_ok-key.key c.in_ok-node.node (sym c.in_ok-node.ensures.node) (listed c)
    ∙ (λ i. sym c.row_of.ensures i ∷ rows_from t name (sym (place-after c) i))
