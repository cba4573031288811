use Rattle.std.proofs.Common.{◌≡◌, take}
use Rattle.std.specs.List.{flat_map}
use Rattle.cluster_audit.specs.Audited.{says_of_name}
use Rattle.cluster_audit.proofs.aliases.alias_lines.Given as goal

abbrev pub invariant-loop-session : goal.invariant-loop-session
invariant-loop-session l = l.text.items ≡ flat_map (says_of_name l.shape) (take l.session-index l.sessions)
