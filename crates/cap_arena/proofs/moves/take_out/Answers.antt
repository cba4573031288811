use Rattle.std.proofs.Common.{ap}
use Rattle.cap_arena.proofs.Removals.{client_has_ends, fewer_left, inode_has_ends, removed}
use Rattle.cap_arena.proofs.moves.take_out.Goals as goal

pub unlink_in-requires : goal.unlink_in-requires
unlink_in-requires g c = inode_has_ends c.args.nodes.now.slots c.args.ends.now.recall c.args.ends.now.inodes c.args.ends.now.clients c.args.key c.args.node c.requires.sound c.requires.there

pub unlink_in-requires-2 : goal.unlink_in-requires-2
unlink_in-requires-2 g c = client_has_ends c.args.nodes.now.slots c.args.ends.now.recall c.args.ends.now.inodes c.args.ends.now.clients c.args.key c.args.node c.requires.sound c.requires.there

pub returns-clause-removed : goal.returns-clause-removed
returns-clause-removed g c =
    removed c.args.nodes.now.slots c.args.ends.now.recall c.unlink.new.ends c.args.ends.now.inodes c.unlink_in.new.heads c.args.ends.now.clients c.unlink_in-2.new.heads c.args.key c.args.node
    c.unlink_in.new.nodes.slots c.unlink_in-2.new.nodes.slots c.unlink.new.nodes.slots c.try_remove-linked.new.self.slots c.requires.sound
    record {
      there = c.requires.there;
      first = ap (λ n. n.slots) c.unlink_in.ensures.nodes;
      second = ap (λ n. n.slots) c.unlink_in-2.ensures.nodes;
      third = ap (λ n. n.slots) c.unlink.ensures.nodes;
      recall = c.unlink.ensures.ends;
      gone = c.try_remove-linked.ensures.updates.changed;
      others = c.try_remove-linked.ensures.updates.others;
      less = fewer_left c.try_remove-linked.result c.unlink.new.nodes c.try_remove-linked.new.self c.try_remove-linked.ensures.len c.try_remove-linked.ensures.absent;
    }
    c.unlink_in.ensures.heads c.unlink_in-2.ensures.heads
