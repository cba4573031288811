use Rattle.std.proofs.Common.{◌≡◌, [], drop}
use Rattle.serde_json.specs.View.{items_view}
use Rattle.ceph_input.specs.Auth.{entities_of}
use Rattle.ceph_input.proofs.reading.read_entities.Given as goal

abbrev pub invariant-loop-item : goal.invariant-loop-item
invariant-loop-item l = entities_of l.entities.items (items_view (drop l.item-index l.items)) ≡ entities_of [] (items_view l.items)
