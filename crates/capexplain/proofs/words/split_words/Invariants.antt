use Rattle.std.proofs.Common.{◌≡◌, ◌+◌, ◌++◌, length, map}
use Rattle.capexplain.specs.Words.{words}
use Rattle.capexplain.proofs.words.split_words.Given as goal

-- the words so far, and those of the rest, are all words
abbrev pub invariant-loop : goal.invariant-loop
invariant-loop l = record {
  cut : words l.text ≡ map (λ part. part.now) l.parts.items ++ words l.rest;
  count : length l.parts.items + 1 ≡ l.counter;
}
