use Rattle.std.proofs.Common.{◌≡◌, drop, [], ◌∷◌}
use Rattle.std.specs.List.{list_any}
use Rattle.policy_analysis.specs.Callers.{allows_in}
use Rattle.policy_analysis.proofs.client_questions.Wanted.allows_one.Given as goal

abbrev pub invariant-loop-gid : goal.invariant-loop-gid
invariant-loop-gid l = list_any (λ gid. allows_in l.self l.attr l.grant (gid ∷ [])) (drop l.gid-index l.gids) ≡ list_any (λ gid. allows_in l.self l.attr l.grant (gid ∷ [])) l.grant.gids
