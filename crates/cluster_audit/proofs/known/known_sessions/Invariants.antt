use Rattle.std.proofs.Common.{◌≡◌, map, take}
use Rattle.cluster_audit.specs.Known.{known_as}
use Rattle.cluster_audit.proofs.known.known_sessions.Given as goal

abbrev pub invariant-loop-session : goal.invariant-loop-session
invariant-loop-session l = l.known.items ≡ map (known_as l.auth) (take l.session-index l.sessions)
