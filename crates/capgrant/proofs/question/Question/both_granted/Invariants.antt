use Rattle.std.proofs.Common.{◌≡◌, take}
use Rattle.std.specs.List.{list_any}
use Rattle.capgrant.specs.Verdict.{allows}
use Rattle.capgrant.proofs.question.Question.both_granted.Given as goal

abbrev pub invariant-loop-grant : goal.invariant-loop-grant
invariant-loop-grant l = record {
  one : l.one ≡ list_any (allows l.self) (take l.grant-index l.grants);
  two : l.two ≡ list_any (allows l.other) (take l.grant-index l.grants);
}
