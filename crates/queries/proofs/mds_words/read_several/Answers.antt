use Rattle.std.proofs.Common.{rules, sym}
use Rattle.queries.specs.MdsWords.{mask_texts_of}
use Rattle.queries.proofs.mds_words.read_several.Goals as goal

pub returns : goal.returns
returns c = (mask_texts_of c.in_ok-texts.texts, sym c.in_ok-texts.ensures, record { bits = search rules; uid = search rules; gid = search rules })
