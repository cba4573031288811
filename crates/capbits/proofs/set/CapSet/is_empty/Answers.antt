use Rattle.std.proofs.Common.{ap, ◌∙◌}
use Rattle.capbits.specs.Caps.{caps_of}
use Rattle.capbits.specs.Sets.{is_empty}
use Rattle.capbits.proofs.SetBits.{empty_bits}
use Rattle.capbits.proofs.Emptiness.{is_empty_from}
use Rattle.capbits.proofs.set.CapSet.is_empty.Goals as goal

pub returns-clause-value : goal.returns-clause-value
returns-clause-value c =
    c.is_empty.ensures tt ∙ is_empty_from (caps_of c.self.inside.bits.0) _ (empty_bits c.self.inside.bits.0 c.self.invariant) ∙ ap is_empty c.self.view_is
