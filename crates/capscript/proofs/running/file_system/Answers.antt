use Rattle.capcore.proofs.Fresh.{has_no_stray}
use Rattle.capscript.proofs.running.file_system.Goals as goal

pub returns-clause-strays : goal.returns-clause-strays
returns-clause-strays c = has_no_stray (record { uid = 0; gid = 0; mode = c.in-Some-Some.mode }) c.in_ok-tree.tree c.in_ok-tree.ensures
