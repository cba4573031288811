use Rattle.std.proofs.Common.{sym, ◌∙◌, rules, tests}
use Rattle.std.specs.Prelude.{bytes_eq}
use Rattle.std.proofs.lemmas.Iterator.{YieldsList-from_slice}
use Rattle.std.proofs.lemmas.Iterator.Adapters.{option_map_id}
use Rattle.std.proofs.lemmas.Iterator.Consumers.{YieldsList-at, YieldsList-from_copied}
use Rattle.std.proofs.lemmas.Iterator.Search.{find_from_yields_List}
use Rattle.capstep.specs.Words.{change_word}
use Rattle.capexplain.specs.Changes.{change_words}
use Rattle.capexplain.proofs.change.read_kind.Goals as goal

pub returns : goal.returns
returns c =
    let road = YieldsList-from_copied (YieldsList-at c.copied.ensures.source (YieldsList-from_slice change_words c.iter.ensures.rest)) in
    sym (option_map_id c.find.result)
    ∙ find_from_yields_List (λ kind. bytes_eq c.args.word.now (change_word kind)) _ _ c.find.result c.find.ensures.ran road (λ x b q k. search (rules, tests))
