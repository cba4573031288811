-- What is published, and what a stage makes of it.
use Rattle.std.specs.Prelude.{List, fold}
use Rattle.policy_view.specs.Changes.{view_by}
use Rattle.snapshot.specs.declared.value.Published.{Published}
use Rattle.snapshot.specs.declared.value.Stage.{Stage}
use Rattle.snapshot.specs.declared.value.Stage.TheVariants as stage

-- other rows, one change of the view, or another view
abbrev pub staged : Published → Stage → Published
staged value (stage.Rows rows) = record value { rows = rows }
staged value (stage.Change change) = record value { view = view_by value.view change.value }
staged value (stage.Whole view) = record value { view = view.value }

-- what is shown once the stages are there
abbrev pub staged_all : Published → List Stage → Published
staged_all value stages = fold staged value stages
