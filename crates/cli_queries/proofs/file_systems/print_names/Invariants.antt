use Rattle.std.proofs.Common.{◌≡◌, ◌++◌, take}
use Rattle.cli_queries.specs.FileSystems.{listed}
use Rattle.cli_queries.proofs.file_systems.print_names.Given as goal

abbrev pub invariant-loop-place : goal.invariant-loop-place
invariant-loop-place l = l.text.items ≡ l.initial.text.items ++ listed (take l.place l.names)
