use Rattle.captable.proofs.table.CapTable.remove.Given as goal

abbrev pub ghosts-remove_node : goal.ghosts-remove_node
ghosts-remove_node a = record { name = a.blank.name; parts = a.blank.parts }
