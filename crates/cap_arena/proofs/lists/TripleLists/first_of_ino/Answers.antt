use Rattle.std.proofs.Common.{◌∙◌, ap, slice_get}
use Rattle.cap_arena.specs.Lists.{OfInode, keys}
use Rattle.cap_arena.proofs.Readers.{first_of_inode}
use Rattle.cap_arena.proofs.lists.TripleLists.first_of_ino.Goals as goal

pub returns-clause-first : goal.returns-clause-first
returns-clause-first g c =
    let f = c.self.inside in
    c.first_in.ensures ∙ first_of_inode f.nodes.slots f.ends.recall f.ends.inodes f.ends.clients c.args.ino c.self.invariant ∙ ap (λ t. slice_get (keys t (OfInode c.args.ino)) 0) c.self.view_is
