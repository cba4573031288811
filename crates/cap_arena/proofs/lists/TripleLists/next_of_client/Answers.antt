use Rattle.std.proofs.Common.{◌∙◌, ap}
use Rattle.std.specs.Option.{option_and_then}
use Rattle.cap_arena.specs.Walks.{key_after}
use Rattle.cap_arena.specs.Lists.{OfClient, keys, lists_of, node_at}
use Rattle.cap_arena.proofs.Readers.{next_of_the_client}
use Rattle.cap_arena.proofs.lists.TripleLists.next_of_client.Goals as goal

pub returns-clause-next : goal.returns-clause-next
returns-clause-next g c =
    let f = c.self.inside in
    c.next_of.ensures ∙ next_of_the_client (lists_of f.nodes.slots f.ends.recall f.ends.inodes f.ends.clients) f.ends.recall c.args.key c.self.invariant ∙ ap (λ t. option_and_then (λ node. key_after (keys t (OfClient node.client)) c.args.key) (node_at t c.args.key)) c.self.view_is
