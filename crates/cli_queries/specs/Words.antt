-- What is said of words that ask for no command.
use Rattle.std.specs.Prelude.{◌≢◌, ℕ, List, [], Option}
use Rattle.std.specs.Io.KnownBytes.{Appends}
use Rattle.cli_queries.specs.declared.reading.NoCommand.{NoCommand}
use Rattle.cli_queries.specs.declared.reading.NoCommand.TheVariants as no_command

-- help has a byte at least
abbrev pub SaysSomething : NoCommand → Type 0
SaysSomething (no_command.Help text) = text.items ≢ []
SaysSomething (no_command.Usage text) = Unit {0}
SaysSomething no_command.NoMemory = Unit {0}

-- this help was written
abbrev pub ShowsHelp : NoCommand → Option (List ℕ) → Option (List ℕ) → Type 0
ShowsHelp (no_command.Help text) old new = Appends old new text.items
ShowsHelp (no_command.Usage text) old new = ⊥
ShowsHelp no_command.NoMemory old new = ⊥
