use Rattle.std.proofs.Common.{rules}
use Rattle.ceph_input.proofs.FsNames.{all_named, none_named, one_named}
use Rattle.ceph_input.proofs.fs_names.names_of.Goals as goal

pub loop-entity-init : goal.loop-entity-init
loop-entity-init c = none_named c.args.entities.now c.new-names.result.items (search rules)

pub loop-entity-preserved : goal.loop-entity-preserved
loop-entity-preserved c =
    let adds = c.in_ok-add_entity.ensures in
    one_named c.args.entities.now c.loop-entity.entity-index c.entity-item.result c.loop-entity.names.items c.add_entity.new.names.items adds.0
    c.loop-entity-test.true c.entity-item.is c.loop-entity.invariant adds.1 adds.2

pub returns : goal.returns
returns c = all_named c.args.entities.now c.loop-entity.entity-index c.loop-entity.names.items c.loop-entity-test.false c.loop-entity.invariant
