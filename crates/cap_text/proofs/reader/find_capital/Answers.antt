use Rattle.cap_text.proofs.Reading.{split_at}
use Rattle.cap_text.proofs.reader.find_capital.Goals as goal

pub returns-then-capital-byte-clause-split : goal.returns-then-capital-byte-clause-split
returns-then-capital-byte-clause-split c = split_at c.args.parts.now c.loop-place.place _ c.loop-place-test.true
