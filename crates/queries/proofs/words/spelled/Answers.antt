use Rattle.std.proofs.Common.{rules}
use Rattle.std.proofs.lemmas.Iterator.Consumers.{YieldsList-at, YieldsList-end}
use Rattle.std.proofs.lemmas.Iterator.{YieldsList-from_chars}
use Rattle.queries.proofs.Spelling.{all_characters, no_byte, one_more}
use Rattle.queries.proofs.words.spelled.Goals as goal

pub loop-character-preserved-in-Continue-1 : goal.loop-character-preserved-in-Continue-1
loop-character-preserved-in-Continue-1 c all =
    one_more c.loop-character.bytes.items c.push.new.self.items c.loop-character.yielded c.in-Some.character c.in-Ok.byte c.loop-character.invariant (search rules) (search rules) all

pub loop-character-preserved : goal.loop-character-preserved
loop-character-preserved c all = no_byte c.loop-character.yielded c.in-Some.character (search rules) all

pub returns : goal.returns
returns c spelt all spells =
    let text = c.args.text.now in
    let whole = YieldsList-end (YieldsList-at c.into_iter-character-iterator.ensures.into_iter_gives (YieldsList-from_chars text c.utf8.text c.chars-character-items.ensures.rest))
    c.loop-character.yielded c.loop-character.character-iterator c.loop-character.yielded_by c.next.result c.next.new.self c.in-None.is c.next.ensures.steps in
    all_characters text c.loop-character.yielded c.loop-character.bytes.items spelt whole.0 c.loop-character.invariant all spells
