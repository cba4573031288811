use Rattle.std.proofs.Common.{◌≡◌, ◌+◌, ◌*◌, ◌≤◌, ◌++◌, length, take}
use Rattle.std.specs.List.{flat_map}
use Rattle.policy_analysis.proofs.free.push_gids.Given as goal

abbrev pub invariant-loop-grant : goal.invariant-loop-grant
invariant-loop-grant l = record {
  items : l.gids.items ≡ l.initial.gids.items ++ flat_map (λ g. g.gids) (take l.grant-index l.grants);
  few : length l.gids.items ≤ length l.initial.gids.items + 16 * l.grant-index;
}
