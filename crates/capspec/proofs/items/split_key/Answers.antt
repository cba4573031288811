use Rattle.capspec.proofs.Drafting.{no_key}
use Rattle.capspec.proofs.items.split_key.Goals as goal

pub returns : goal.returns
returns c = no_key c.args.text.now c.loop-key.key-index c.loop-key-test.false c.loop-key.invariant
