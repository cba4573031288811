use Rattle.std.proofs.Common.{◌-◌, ◌^◌, min, ap, ◌∙◌}
use Rattle.release_grants.proofs.Numbers.{capped_is}
use Rattle.release_grants.proofs.network.capped.Goals as goal

pub returns : goal.returns
returns c = c.min.ensures ∙ ap (λ n. min n (2 ^ 63 - 1)) c.unwrap_or.ensures ∙ capped_is c.args.digits.now c.read_u64.result c.requires.some c.requires.digits c.read_u64.ensures
