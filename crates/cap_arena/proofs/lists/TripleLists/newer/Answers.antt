use Rattle.std.proofs.Common.{◌∙◌, ap}
use Rattle.cap_arena.specs.Walks.{key_after}
use Rattle.cap_arena.specs.Lists.{OfRecall, keys, lists_of}
use Rattle.cap_arena.proofs.Readers.{next_of_recall}
use Rattle.cap_arena.proofs.lists.TripleLists.newer.Goals as goal

pub returns-clause-next : goal.returns-clause-next
returns-clause-next g c =
    let f = c.self.inside in
    c.next_of.ensures ∙ next_of_recall (lists_of f.nodes.slots f.ends.recall f.ends.inodes f.ends.clients) f.ends.recall c.args.key c.self.invariant ∙ ap (λ t. key_after (keys t OfRecall) c.args.key) c.self.view_is
