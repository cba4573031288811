use Rattle.capffi.proofs.Filled.{read_can}
use Rattle.capffi.proofs.filling.prepare.Goals as goal

pub gather-requires : goal.gather-requires
gather-requires c = rw c.as_slice.ensures.same (read_can _ _ c.in_ok-grants.ensures)
