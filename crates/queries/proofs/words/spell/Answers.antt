use Rattle.std.proofs.Common.{rules}
use Rattle.std.specs.String.{string_bytes}
use Rattle.queries.proofs.Spelling.{spells_one_more}
use Rattle.queries.proofs.words.spell.Goals as goal

pub loop-byte-preserved : goal.loop-byte-preserved
loop-byte-preserved c =
    spells_one_more (string_bytes c.loop-byte.text) (string_bytes c.push.new.self) c.args.bytes.now c.loop-byte.byte-index _ (search rules) c.from.ensures c.loop-byte.invariant (search rules)
