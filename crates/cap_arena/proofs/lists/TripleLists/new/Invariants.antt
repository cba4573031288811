use Rattle.cap_arena.proofs.lists.TripleLists.new.Given as goal

abbrev pub ghosts-no_ends : goal.ghosts-no_ends
ghosts-no_ends g a = record { name = a.blank.name; parts = a.blank.parts }
