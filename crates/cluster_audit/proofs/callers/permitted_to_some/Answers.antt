use Rattle.std.proofs.Common.{ap, ◌∙◌}
use Rattle.capbits.specs.Caps.{Caps, has}
use Rattle.cluster_audit.proofs.Somebody.{exactly, of_any}
use Rattle.cluster_audit.proofs.callers.permitted_to_some.Goals as goal

pub returns-clause-exact : goal.returns-clause-exact
returns-clause-exact c = exactly c.args.inode.now c.args.grants.now c.is_allowed.result c.is_allowed-2.result c.is_allowed.ensures.some c.is_allowed.ensures.none c.is_allowed-2.ensures.some c.is_allowed-2.ensures.none c.caps_for.result (λ cap. ap (λ (s : Caps). has s cap) c.caps_for.ensures)

pub returns-clause-at_all : goal.returns-clause-at_all
returns-clause-at_all c caller cap e = ap (λ (s : Caps). has s cap) c.caps_for.ensures ∙ of_any c.args.inode.now c.args.grants.now c.is_allowed.result c.is_allowed-2.result c.is_allowed.ensures.some c.is_allowed.ensures.none c.is_allowed-2.ensures.some c.is_allowed-2.ensures.none caller cap e
