-- What pieces of an object are as values.
use Rattle.std.specs.Prelude.{List, map, ℕ}
use Rattle.std.specs.Borrow.{Bor}
use Rattle.serde_json.specs.Data.{Data, null, string}
use Rattle.capbits.specs.Text.{text_of}
use Rattle.texts.specs.Explaining.{path_text}
use Rattle.texts.specs.declared.table.Piece.{Piece}
use Rattle.texts.specs.declared.table.Piece.TheVariants.{Access, Bytes, Caps, MdsRules, Null, Number, Numbers, Path, Rules, Word}
use Rattle.texts.specs.Answers.{rules_value}
use Rattle.texts.specs.MdsAnswers.{mds_rules_value}
use Rattle.texts.specs.MdsAsked.{mds_access_word}
use Rattle.texts.specs.Values.{Table, bytes_value, natural, numbers_value, object_of}

abbrev pub piece_value : Piece → Data
piece_value Null = null
piece_value (Number n) = natural n
piece_value (Word text) = string text.now
piece_value (Bytes bytes) = bytes_value bytes.now
piece_value (Numbers numbers) = numbers_value numbers.now
piece_value (Access access) = string (mds_access_word access)
piece_value (Path path) = bytes_value (path_text (map (λ name. name.now) path.now))
piece_value (Caps caps) = bytes_value (text_of caps)
piece_value (Rules rules) = rules_value rules.now
piece_value (MdsRules rules) = mds_rules_value rules.now

-- the values of these pieces at these keys
abbrev pub table_of : List (Bor (List ℕ) × Piece) → Table
table_of table = map (λ m. (m.0.now, piece_value m.1)) table

-- the object with these pieces at these keys
abbrev pub pieces_value : List (Bor (List ℕ) × Piece) → Data
pieces_value table = object_of (map (λ m. (m.0.now, piece_value m.1)) table)
