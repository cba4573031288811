use Rattle.cap_text.proofs.Reading.{split_at}
use Rattle.cap_text.proofs.reader.find_letter.Goals as goal

pub returns-then-letter-byte-clause-split : goal.returns-then-letter-byte-clause-split
returns-then-letter-byte-clause-split c = split_at c.args.caps.now c.loop-place.place _ c.loop-place-test.true
