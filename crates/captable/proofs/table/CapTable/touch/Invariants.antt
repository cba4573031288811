use Rattle.captable.proofs.table.CapTable.touch.Given as goal

abbrev pub ghosts-touch_node : goal.ghosts-touch_node
ghosts-touch_node a = record { name = a.blank.name; parts = a.blank.parts }
