use Rattle.std.proofs.Common.{◌∙◌, ap, slice_get}
use Rattle.cap_arena.specs.Lists.{OfClient, keys}
use Rattle.cap_arena.proofs.Readers.{first_of_the_client}
use Rattle.cap_arena.proofs.lists.TripleLists.first_of_client.Goals as goal

pub returns-clause-first : goal.returns-clause-first
returns-clause-first g c =
    let f = c.self.inside in
    c.first_in.ensures ∙ first_of_the_client f.nodes.slots f.ends.recall f.ends.inodes f.ends.clients c.args.client c.self.invariant ∙ ap (λ t. slice_get (keys t (OfClient c.args.client)) 0) c.self.view_is
