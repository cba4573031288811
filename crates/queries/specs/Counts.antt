-- How often each line stands in a text.
use Rattle.std.specs.Prelude.{ℕ, ◌+◌, not, List, [], ◌∷◌, ◌++◌, codes, map, count_by, if◌then◌else◌}
use Rattle.std.specs.Fmt.{decimal}
use Rattle.std.specs.List.{filter}
use Rattle.std.specs.Str.{bytes_eq}
use Rattle.serde_json.specs.Data.{Data}
use Rattle.texts.specs.ScriptLines.{lines}
use Rattle.texts.specs.Values.{natural, object_of}
use Rattle.texts.specs.declared.shape.Shape.{Shape}
use Rattle.texts.specs.declared.shape.Shape.TheVariants.{Lines, Objects}
use Rattle.queries.specs.declared.line_counts.LineCounts.{LineCounts}

-- a line, and how often it stands
abbrev pub Count : Type 0
Count = List ℕ × ℕ

-- each line once, in the order in which they come first, with how often it comes
abbrev pub counts : List (List ℕ) → List Count
counts [] = []
counts (t ∷ ts) = (t, count_by (bytes_eq t) ts + 1) ∷ filter (λ e. not (bytes_eq t e.0)) (counts ts)

-- the same, where this one comes once more
abbrev pub noted : List Count → List ℕ → List Count
noted [] t = (t, 1) ∷ []
noted (e ∷ es) t = if bytes_eq t e.0 then (e.0, e.1 + 1) ∷ es else e ∷ noted es t

-- the same of what the code has
abbrev pub counts_of : LineCounts → List Count
counts_of c = map (λ e. (e.0.items, e.1)) c.counts.entries

-- the lines that end in a text
abbrev pub but_last : List (List ℕ) → List (List ℕ)
but_last [] = []
but_last (l ∷ []) = []
but_last (l ∷ m ∷ ls) = l ∷ but_last (m ∷ ls)

abbrev pub ended : List ℕ → List (List ℕ)
ended text = but_last (lines text)

-- a line with its count
abbrev pub counted_in : Shape → Count → List ℕ
counted_in Lines e = e.0 ++ (codes ": " ++ (decimal e.1 ++ codes "\n"))
counted_in Objects e = codes "{\"count\":" ++ (decimal e.1 ++ (codes ",\"each\":" ++ (e.0 ++ codes "}\n")))

-- the object of a count
abbrev pub count_value : ℕ → Data → Data
count_value count each = object_of ((codes "count", natural count) ∷ (codes "each", each) ∷ [])
