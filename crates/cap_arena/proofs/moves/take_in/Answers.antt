use Rattle.std.proofs.Common.{None, IsSome, sym, ap, subst, ◌∙◌, refl}
use Rattle.std.specs.FinMap as map
use Rattle.cap_arena.proofs.HeadMaps.{room_there}
use Rattle.cap_arena.proofs.Additions.{added}
use Rattle.cap_arena.proofs.moves.take_in.Goals as goal

pub append_in-requires : goal.append_in-requires
append_in-requires g c = subst (λ m. IsSome (map.get m c.args.node.ino.0)) (sym c.in_ok-make_rooms.ensures.ok.0) (room_there c.args.ends.now.inodes c.args.node.ino.0)

pub append_in-requires-2 : goal.append_in-requires-2
append_in-requires-2 g c = subst (λ m. IsSome (map.get m c.args.node.client.0)) (sym c.in_ok-make_rooms.ensures.ok.1) (room_there c.args.ends.now.clients c.args.node.client.0)

pub returns-clause-added : goal.returns-clause-added
returns-clause-added g c =
    let s = c.args.nodes.now.slots in
    let key = c.insert_reserved-key.result in
    let a = added s c.args.ends.now.recall c.args.ends.now.inodes c.make_rooms.new.inodes c.append_in.new.heads c.args.ends.now.clients c.make_rooms.new.clients c.append_in-2.new.heads key c.args.node
    c.insert_reserved-key.new.self.slots c.append_in.new.nodes.slots c.append_in-2.new.nodes.slots c.append.new.nodes.slots c.append.new.ends c.requires.sound c.requires.below
    record {
      linked = record { node = c.args.node; of_ino = c.behind.result; of_client = c.behind-2.result; recall = c.behind-3.result };
      node_is = refl;
      of_ino = c.behind.ensures.joint ∙ (λ t. record { next = None; previous = c.last_in.ensures t });
      of_client = c.behind-2.ensures.joint ∙ (λ t. record { next = None; previous = c.last_in-2.ensures t });
      recall = c.behind-3.ensures.joint ∙ (λ t. record { next = None; previous = c.key.ensures t });
      free = c.insert_reserved-key.ensures.was_vacant;
      at = c.insert_reserved-key.ensures.updates.changed;
      others = c.insert_reserved-key.ensures.updates.others;
      more = c.insert_reserved-key.ensures.len;
      second = ap (λ n. n.slots) c.append_in.ensures.nodes;
      third = ap (λ n. n.slots) c.append_in-2.ensures.nodes;
      fourth = ap (λ n. n.slots) c.append.ensures.nodes;
    }
    record { reserved = c.in_ok-make_rooms.ensures.ok.0; updated = c.append_in.ensures.heads }
    record { reserved = c.in_ok-make_rooms.ensures.ok.1; updated = c.append_in-2.ensures.heads }
    c.append.ensures.ends in
    (a.sound, a.adds)
