use Rattle.std.proofs.Common.{◌≡◌, take}
use Rattle.std.specs.List.{list_any}
use Rattle.capgrant.specs.Verdict.{allows}
use Rattle.capgrant.proofs.question.Question.both_granted_by_prefixes.Given as goal

abbrev pub invariant-loop-place : goal.invariant-loop-place
invariant-loop-place l = record {
  one : l.one ≡ list_any (allows l.self) (take l.place l.grants);
  two : l.two ≡ list_any (allows l.other) (take l.place l.grants);
}
