use Rattle.std.proofs.Common.{subst, sym}
use Rattle.cap_arena.specs.Lists.{IsLists, lists_of}
use Rattle.cap_arena.specs.Calls.{Sets}
use Rattle.cap_arena.proofs.Values.{sets_value}
use Rattle.cap_arena.proofs.lists.TripleLists.set.Goals as goal

pub invariant_of-self : goal.invariant_of-self
invariant_of-self g c =
    let f = c.self.inside in
    subst (λ n. IsLists (lists_of n.slots f.ends.recall f.ends.inodes f.ends.clients)) (sym c.put_value.ensures) (sets_value f.nodes.slots f.ends.recall f.ends.inodes f.ends.clients c.args.key c.args.value c.self.invariant).0

pub returns-clause-changed : goal.returns-clause-changed
returns-clause-changed g c =
    let f = c.self.inside in
    subst (λ t. Sets t (lists_of c.put_value.new.nodes.slots f.ends.recall f.ends.inodes f.ends.clients) c.args.key c.args.value) c.self.view_is
    (subst (λ n. Sets (lists_of f.nodes.slots f.ends.recall f.ends.inodes f.ends.clients) (lists_of n.slots f.ends.recall f.ends.inodes f.ends.clients) c.args.key c.args.value) (sym c.put_value.ensures)
    (sets_value f.nodes.slots f.ends.recall f.ends.inodes f.ends.clients c.args.key c.args.value c.self.invariant).1)

pub returns-clause-sound : goal.returns-clause-sound
returns-clause-sound g c = invariant_of-self g c
