use Rattle.captable.proofs.table.CapTable.open_entry_tested.Given as goal

abbrev pub ghosts-add_node : goal.ghosts-add_node
ghosts-add_node a = record { name = a.blank.name; parts = a.blank.parts }
