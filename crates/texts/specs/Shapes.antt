-- What is written in each shape.
use Rattle.std.specs.Prelude.{ℕ, List, [], codes}
use Rattle.texts.specs.declared.shape.Shape.{Shape}
use Rattle.texts.specs.declared.shape.Shape.TheVariants.{Lines, Objects}

-- where nothing is found: a line that says so, or no object
abbrev pub nothing_in : Shape → List ℕ
nothing_in Lines = codes "nothing found\n"
nothing_in Objects = []
