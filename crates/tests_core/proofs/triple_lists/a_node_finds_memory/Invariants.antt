use Rattle.tests_core.proofs.triple_lists.a_node_finds_memory.Given as goal

abbrev pub ghosts-adds : goal.ghosts-adds
ghosts-adds g a = record { name = a.blank.name; parts = a.blank.parts }
