use Rattle.std.proofs.Common.{List, ℕ, rules}
use Rattle.clap.specs.Words.{Row}
use Rattle.cli_queries.specs.declared.command_line.Invocation.TheVariants.{Explain}
use Rattle.cli_queries.specs.Matched.{AsksFor, words_of}
use Rattle.cli_queries.proofs.Matches.{asked}
use Rattle.cli_queries.proofs.from_clap.invoked.Goals as goal

pub returns-in_ok-explain_args-in-explain : goal.returns-in_ok-explain_args-in-explain
returns-in_ok-explain_args-in-explain c =
    asked _ _ _ (λ (name : List ℕ) (words : List Row). AsksFor name words (Explain c.in_ok-explain_args-in-explain.field-0)) c.in-Some.name.now (words_of c.in-Some.matches.now)
    c.in-Some.ensures.name c.in-Some.ensures.rows (search rules, c.in_ok-explain_args-in-explain.ensures)
