use Rattle.cap_arena.specs.Lists.{OfInode, keys}
use Rattle.captable.proofs.NodesAt.{place-first}
use Rattle.captable.proofs.walk.KeptWalk.of_inode.Goals as goal

pub invariant_of-result : goal.invariant_of-result
invariant_of-result c = place-first (keys c.args.lists.now (OfInode c.args.ino)) c.first_of_ino.result c.first_of_ino.ensures.first
