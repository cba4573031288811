use Rattle.std.proofs.Common.{◌≡◌, length}
use Rattle.queries.specs.Checks.{words, words_behind_thread}
use Rattle.queries.proofs.check.behind_thread.Given as goal

abbrev pub invariant-loop-word : goal.invariant-loop-word
invariant-loop-word l = words_behind_thread (words l.rest) ≡ words_behind_thread (words l.text)

abbrev pub decreases-loop-word : goal.decreases-loop-word
decreases-loop-word l = length l.rest
