use Rattle.std.proofs.Common.{sym, ◌∙◌, rules, tests}
use Rattle.std.specs.Prelude.{bytes_eq}
use Rattle.std.proofs.lemmas.Iterator.{YieldsList-from_slice}
use Rattle.std.proofs.lemmas.Iterator.Adapters.{option_map_id}
use Rattle.std.proofs.lemmas.Iterator.Consumers.{YieldsList-at, YieldsList-from_copied}
use Rattle.std.proofs.lemmas.Iterator.Search.{find_from_yields_List}
use Rattle.capstep.specs.Words.{command_word, commands}
use Rattle.capstep.proofs.command.Command.by_word.Goals as goal

pub returns : goal.returns
returns c =
    let road = YieldsList-from_copied (YieldsList-at c.copied.ensures.source (YieldsList-from_slice commands c.iter.ensures.rest)) in
    sym (option_map_id c.find.result)
    ∙ find_from_yields_List (λ command. bytes_eq c.args.word.now (command_word command)) _ _ c.find.result c.find.ensures.ran road (λ x b q k. search (rules, tests))
