use Rattle.std.proofs.Common.{◌≡◌, [], drop}
use Rattle.serde_json.specs.View.{items_view}
use Rattle.ceph_input.specs.Sessions.{sessions_from}
use Rattle.ceph_input.proofs.session.read_each.Given as goal

abbrev pub invariant-loop-item : goal.invariant-loop-item
invariant-loop-item l = sessions_from l.sessions.items (items_view (drop l.item-index l.items)) ≡ sessions_from [] (items_view l.items)
