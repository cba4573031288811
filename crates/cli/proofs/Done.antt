-- What was written where the work was done.
use Rattle.std.proofs.Common.{◌≡◌, ◌≤◌, ◌⊎◌, ℕ, Option, List, inl, inr, arith, subst}
use Rattle.std.specs.Global.{Vec}
use Rattle.std.specs.Prelude.{Ok, OnOk, Result}
use Rattle.std.specs.Io.KnownBytes.{Keeps}
use Rattle.cli_queries.specs.Files.{ReadsFile}
use Rattle.cli_queries.specs.FileSystems.{AppendsFront, KnowsNames, Notes, given_in, named_by, note_of}
use Rattle.cli_queries.specs.Words.{SaysSomething, ShowsHelp}
use Rattle.cli_queries.specs.declared.command_line.Invocation.{Invocation}
use Rattle.cli_queries.specs.declared.reading.NoCommand.{NoCommand}
use Rattle.cli_queries.specs.declared.reading.NoCommand.TheVariants as no_command
use Rattle.cli.specs.Commands.{Answers, WasDone}

-- help was asked for
pub by_help : (some : NoCommand) (input : Option (List ℕ)) (status : ℕ) (old new before after : Option (List ℕ)) → SaysSomething some → status ≤ 2 → (status ≡ 0 → ShowsHelp some old new) → (status ≡ 0 → Keeps before after)
    → (status ≡ 0) ⊎ (status ≡ 3) → WasDone input status old new before after
by_help (no_command.Help text) input status old new before after says small shows keeps (inl done) = inr (text.items, done, says, shows done, keeps done)
by_help (no_command.Usage text) input status old new before after says small shows keeps (inl done) = absurd (shows done)
by_help no_command.NoMemory input status old new before after says small shows keeps (inl done) = absurd (shows done)
by_help some input status old new before after says small shows keeps (inr denied) = absurd (omega (arith, small, denied))

-- a command was, by the input or by a file
pub by_answer : {Clear Written Stopped : Type 0} (invocation : Invocation) (read input : Option (List ℕ)) (status : ℕ) (old new before after : Option (List ℕ)) → ReadsFile invocation ⊎ (read ≡ input)
    → (((status ≡ 0) ⊎ (status ≡ 3)) × Clear × Written × Notes invocation read before after × Answers invocation read status old new) ⊎ ((status ≡ 1) × Stopped)
    → (status ≡ 0) ⊎ (status ≡ 3) → WasDone input status old new before after
by_answer invocation read input status old new before after from (inl done) is = inl (invocation, read, from, done.4, done.3)
by_answer invocation read input status old new before after from (inr stopped) (inl done) = absurd (omega (arith, stopped.0, done))
by_answer invocation read input status old new before after from (inr stopped) (inr denied) = absurd (omega (arith, stopped.0, denied))

-- what is said beside the answer, by what is known behind the work
pub noted : (asked known : Invocation) (input before after : Option (List ℕ)) → KnowsNames asked known input → AppendsFront before after (note_of (named_by known) (given_in known)) → Notes asked input before after
noted asked known input before after knows said =
    (named_by known, knows.0, subst (λ (given : Option (Vec ℕ)). AppendsFront before after (note_of (named_by known) given)) knows.1 said)

-- ---- results

pub at_ok : {T E P : Type 0} {r : Result T E} {x : T} → r ≡ Ok x → OnOk r P → P
at_ok {T} {E} {P} is holds = subst (λ (s : Result T E). OnOk s P) is holds
