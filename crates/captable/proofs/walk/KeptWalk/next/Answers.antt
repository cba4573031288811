use Rattle.std.proofs.Common.{◌≡◌, ℕ, true, ◌∷◌, ◌∙◌, sym, ap, subst}
use Rattle.cap_arena.specs.Walks.{is_among, key_after}
use Rattle.cap_arena.specs.Lists.{Lists, OfInode, keys}
use Rattle.captable.specs.declared.entry.Slot.{Slot}
use Rattle.captable.specs.Walks.{IsPlaceOf, kept_from}
use Rattle.captable.proofs.WalkOn.{after-in, kept-next, next-of-inode}
use Rattle.captable.proofs.walk.KeptWalk.next.Goals as goal

-- the key of the next node is one of the list
listed : (c : goal.After-kept_entry_of) → is_among (keys c.self.inside.lists.now (OfInode c.self.inside.ino)) c.in_ok-key.key ≡ true
listed c = subst (IsPlaceOf c.self.inside.lists.now (OfInode c.self.inside.ino)) c.in_ok-key.was c.self.invariant

-- the place after it
place-after : (c : goal.After-kept_entry_of) → c.next_of_ino-self-inside.result ≡ key_after (keys c.self.inside.lists.now (OfInode c.self.inside.ino)) c.in_ok-key.key
place-after c =
    c.next_of_ino-self-inside.ensures.next
    ∙ next-of-inode c.self.inside.lists.now c.get.ensures.sound c.self.inside.ino c.in_ok-key.key c.in_ok-node.node (sym c.in_ok-node.ensures.node) (listed c)

pub invariant_of-self : goal.invariant_of-self
invariant_of-self c =
    let t : Lists Slot = c.self.inside.lists.now in
    subst (IsPlaceOf t (OfInode c.self.inside.ino)) (sym (place-after c)) (after-in (keys t (OfInode c.self.inside.ino)) c.in_ok-key.key)

pub returns-clause-some : goal.returns-clause-some
returns-clause-some c =
    let t : Lists Slot = c.self.inside.lists.now in
    let name = OfInode c.self.inside.ino in
    sym c.self.view_is ∙ ap (kept_from t name) c.in_ok-key.was
    ∙ kept-next t c.get.ensures.sound name c.in_ok-key.key c.in_ok-node.node (sym c.in_ok-node.ensures.node) (listed c)
    ∙ (λ i. sym c.kept_entry_of.ensures i ∷ kept_from t name (sym (place-after c) i))
