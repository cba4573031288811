use Rattle.std.proofs.Common.{◌≡◌, drop, None}
use Rattle.release_rules.specs.Clients.{refused_behind}
use Rattle.release_rules.proofs.judging.client_refuses.Given as goal

abbrev pub invariant-loop-place : goal.invariant-loop-place
invariant-loop-place l = refused_behind l.switches l.question l.place l.refused (drop l.place l.grants) ≡ refused_behind l.switches l.question 0 None l.grants
