use Rattle.std.proofs.Common.{ℕ, ◌||◌, List, ◌++◌, drop, replicate, ap, ◌∙◌}
use Rattle.std.specs.List.{list_any}
use Rattle.capgrant.proofs.Together.{left_to}
use Rattle.capgrant.proofs.gids.further_gids.Goals as goal

pub returns : goal.returns
returns c p =
    let gid : ℕ = c.args.caller.now.gid in
    ap (λ (groups : List ℕ). p gid || list_any p (groups ++ drop c.len-count.result (replicate 16 gid))) (c.copy_from_slice.ensures.after ∙ c.as_slice.ensures.value)
    ∙ left_to p gid c.args.caller.now.groups c.len-count.result 16
