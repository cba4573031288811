use Rattle.std.proofs.Common.{◌≡◌, ◌+◌, ◌*◌, ◌≤◌, ◌++◌, length, take}
use Rattle.std.specs.List.{flat_map}
use Rattle.policy_analysis.specs.Free.{ids_of}
use Rattle.policy_analysis.proofs.free.push_ids.Given as goal

abbrev pub invariant-loop-grant : goal.invariant-loop-grant
invariant-loop-grant l = record {
  items : l.ids.items ≡ l.initial.ids.items ++ flat_map ids_of (take l.grant-index l.grants);
  few : length l.ids.items ≤ length l.initial.ids.items + 17 * l.grant-index;
}
