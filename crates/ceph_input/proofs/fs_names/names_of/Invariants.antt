use Rattle.ceph_input.proofs.FsNames.{AreBegun}
use Rattle.ceph_input.proofs.fs_names.names_of.Given as goal

abbrev pub invariant-loop-entity : goal.invariant-loop-entity
invariant-loop-entity l = AreBegun l.entities l.entity-index l.names.items
