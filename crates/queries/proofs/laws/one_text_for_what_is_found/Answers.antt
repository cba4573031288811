use Rattle.queries.proofs.Linted.{one_lint, says_something}
use Rattle.queries.proofs.laws.one_text_for_what_is_found.Goals as goal

pub returns-clause-found : goal.returns-clause-found
returns-clause-found c = one_lint

pub returns-clause-something : goal.returns-clause-something
returns-clause-something c = says_something
