use Rattle.std.proofs.Common.{◌≡◌, length, take}
use Rattle.std.specs.Prelude.{filter_map}
use Rattle.policy_analysis.proofs.Reasons.{reason_of}
use Rattle.policy_analysis.proofs.client_questions.Wanted.reasons.Given as goal

abbrev pub invariant-loop-place : goal.invariant-loop-place
invariant-loop-place l = (l.rules.items ≡ filter_map (reason_of l.self l.attr) (take l.place l.grants)) × (length l.rules.items ≡ l.place)
