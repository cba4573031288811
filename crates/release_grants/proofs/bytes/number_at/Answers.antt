use Rattle.std.proofs.Common.{sym}
use Rattle.release_grants.proofs.Numbers.{number_none}
use Rattle.release_grants.proofs.bytes.number_at.Goals as goal

pub returns-in_err-read_u32 : goal.returns-in_err-read_u32
returns-in_err-read_u32 c =
    rw c.from_residual.ensures (sym (number_none c.args.text.now c.split_while.result.0.now c.read_u32.result c.split_while.ensures.front c.read_u32.ensures c.in_err-read_u32.was))
