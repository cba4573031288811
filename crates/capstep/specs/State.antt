-- The state of the core.
use Rattle.std.specs.Prelude.{List}
use Rattle.capstep.specs.declared.outcome.Ended.{Ended}
use Rattle.lockmachine.specs.Scene.{Scene}

pub record State : Type 0 where
  -- the file system's name, tree, sessions, entries and locks
  pub scene : Scene
  -- the requests that ended and that no client was told of, in the order in which they ended
  pub messages : List Ended
