use Rattle.capbits.proofs.Following.{text_of-injective}
use Rattle.capbits.proofs.laws.one_set_for_a_text.Goals as goal

pub returns : goal.returns
returns c = text_of-injective
