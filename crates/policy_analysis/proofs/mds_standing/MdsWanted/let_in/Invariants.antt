use Rattle.std.proofs.Common.{◌≡◌, drop}
use Rattle.policy_analysis.specs.MdsStanding.{let_in_of}
use Rattle.policy_analysis.proofs.mds_standing.MdsWanted.let_in.Given as goal

abbrev pub invariant-loop-gid : goal.invariant-loop-gid
invariant-loop-gid l = let_in_of l.self l.grant (drop l.gid-index l.gids) ≡ let_in_of l.self l.grant l.grant.gids
