use Rattle.std.proofs.Common.{◌≡◌, [], drop}
use Rattle.serde_json.specs.View.{items_view}
use Rattle.ceph_input.specs.Dump.{holders_from}
use Rattle.ceph_input.proofs.holder.read_holders.Given as goal

abbrev pub invariant-loop-item : goal.invariant-loop-item
invariant-loop-item l = holders_from l.holders.items (items_view (drop l.item-index l.items)) ≡ holders_from [] (items_view l.items)
