-- The lines of a script.
use Rattle.std.specs.Prelude.{◌==◌, ℕ, Bool, true, List, [], ◌∷◌}
use Rattle.std.specs.List.{slice_split}

-- how many bytes a script may have
abbrev pub longest_script : ℕ
longest_script = 16777216

-- how many bytes a line may have that is not skipped, without its line feed
abbrev pub longest_line : ℕ
longest_line = 65536

abbrev pub is_line_feed : ℕ → Bool
is_line_feed b = b == 10

-- The lines of a script, without the line feeds that end them. Behind the last line feed there is one more line: it is empty, or has no
-- line feed.
abbrev pub lines : List ℕ → List (List ℕ)
lines script = slice_split is_line_feed script

-- the line is empty, or begins with `#`
abbrev pub is_skipped : List ℕ → Bool
is_skipped [] = true
is_skipped (b ∷ bs) = b == 35
