-- Texts that are made of pieces, one behind another.
use Rattle.std.specs.Prelude.{List, [], ◌∷◌, ◌++◌, map, ℕ}
use Rattle.std.specs.Fmt.{decimal}
use Rattle.capbits.specs.Text.{text_of}
use Rattle.texts.specs.declared.line_text.Text.{Text}
use Rattle.texts.specs.declared.line_text.Text.TheVariants.{Access, Bytes, Caps, Groups, Mode, Number, Path, Quoted, Word}
use Rattle.texts.specs.Explaining.{path_text}
use Rattle.texts.specs.MdsAsked.{mds_access_word}
use Rattle.texts.specs.PartTexts.{groups_text, mode_text}
use Rattle.texts.specs.Quoting.{quoted}

abbrev pub text_value : Text → List ℕ
text_value (Word word) = word.now
text_value (Number n) = decimal n
text_value (Bytes bytes) = bytes.now
text_value (Quoted bytes) = quoted bytes.now
text_value (Path path) = quoted (path_text (map (λ name. name.now) path.now))
text_value (Access access) = mds_access_word access
text_value (Caps caps) = text_of caps
text_value (Mode mode) = mode_text mode
text_value (Groups groups) = groups_text groups.now

-- these pieces, one behind another
abbrev pub all_texts : List Text → List ℕ
all_texts [] = []
all_texts (piece ∷ []) = text_value piece
all_texts (piece ∷ (next ∷ more)) = text_value piece ++ all_texts (next ∷ more)
