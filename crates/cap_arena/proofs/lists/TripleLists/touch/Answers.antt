use Rattle.std.proofs.Common.{subst, sym}
use Rattle.cap_arena.specs.Places.{moved_slots}
use Rattle.cap_arena.specs.Lists.{IsLists, lists_of}
use Rattle.cap_arena.specs.Calls.{Touches}
use Rattle.cap_arena.proofs.Touched.{moved_there}
use Rattle.cap_arena.proofs.lists.TripleLists.touch.Goals as goal

pub invariant_of-self : goal.invariant_of-self
invariant_of-self g c =
    let f = c.self.inside in
    subst (λ n. IsLists (lists_of n.slots c.move_last.new.recall f.ends.inodes f.ends.clients)) (sym c.move_last.ensures.nodes)
    (subst (λ e. IsLists (lists_of (moved_slots f.nodes.slots f.ends.recall c.args.key) e f.ends.inodes f.ends.clients)) (sym c.move_last.ensures.ends)
    (moved_there f.nodes.slots f.ends.recall f.ends.inodes f.ends.clients c.args.key c.contains.result c.self.invariant c.contains.ensures.0 c.if-not-contains.false).0)

pub returns-clause-there : goal.returns-clause-there
returns-clause-there g c = λ there.
    let f = c.self.inside in
    subst (λ t. Touches t (lists_of c.move_last.new.nodes.slots c.move_last.new.recall f.ends.inodes f.ends.clients) c.args.key) c.self.view_is
    (subst (λ n. Touches (lists_of f.nodes.slots f.ends.recall f.ends.inodes f.ends.clients) (lists_of n.slots c.move_last.new.recall f.ends.inodes f.ends.clients) c.args.key) (sym c.move_last.ensures.nodes)
    (subst (λ e. Touches (lists_of f.nodes.slots f.ends.recall f.ends.inodes f.ends.clients) (lists_of (moved_slots f.nodes.slots f.ends.recall c.args.key) e f.ends.inodes f.ends.clients) c.args.key) (sym c.move_last.ensures.ends)
    (moved_there f.nodes.slots f.ends.recall f.ends.inodes f.ends.clients c.args.key c.contains.result c.self.invariant c.contains.ensures.0 c.if-not-contains.false).1))

pub returns-clause-sound : goal.returns-clause-sound
returns-clause-sound g c = invariant_of-self g c
