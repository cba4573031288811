-- A tree that is read piece by piece.
use Rattle.ceph_input.specs.declared.growing.TreeReader.{TreeReader}
use Rattle.ceph_input.specs.Dump.{Growing, dump, growing}

-- what was read so far
abbrev pub so_far : TreeReader → Growing
so_far reader = growing (dump reader.tree.inodes.items reader.tree.paths) reader.rows
