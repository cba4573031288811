use Rattle.std.proofs.Common.{◌≡◌, ◌<◌, All}
use Rattle.queries.proofs.words.spelled.Given as goal

abbrev pub invariant-loop-character : goal.invariant-loop-character
invariant-loop-character l = All (λ c. c < 256) l.yielded → l.bytes.items ≡ l.yielded
