-- Lines in order.
use Rattle.std.specs.Prelude.{◌≡◌, ℕ, List, [], ◌∷◌, ◌++◌, codes, count_by, map}
use Rattle.std.specs.Cmp.Lexicographic.{slice_cmp}
use Rattle.std.specs.Global.{Vec}
use Rattle.std.specs.List.{dedup, flat_map}
use Rattle.std.specs.List.Sorted.{IsPermutation, IsSorted}
use Rattle.std.specs.Ordering.{nat_cmp}
use Rattle.std.specs.Str.{bytes_eq}
use Rattle.texts.specs.ScriptLines.{lines}
use Rattle.texts.specs.declared.shape.Shape.{Shape}
use Rattle.cluster_audit.specs.Shaped.{counted_in}

-- the second text has the lines of the first in the order of their bytes, each once; what stands behind the last line feed stays there
pub record AreInOrder (text ordered : List ℕ) : Type 0 where
  pub before : List (Vec ℕ)
  pub all : List (Vec ℕ)
  pub rest : List ℕ
  pub cut : lines text ≡ map (λ line. line.items) before ++ rest ∷ []
  pub same : IsPermutation before all
  pub sorted : IsSorted (λ x y. slice_cmp nat_cmp x.items y.items) all
  pub joined : ordered ≡ flat_map (λ line. line.items ++ codes "\n") (dedup (λ x y. bytes_eq x.items y.items) all) ++ rest

-- a line with how many of all lines it is
abbrev pub counted_line : Shape → List (Vec ℕ) → Vec ℕ → List ℕ
counted_line shape all line = counted_in shape line.items (count_by (λ other. bytes_eq other.items line.items) all)

-- the second text has the lines of the first in the order of their bytes, each once, and with each how often it stands in the first
pub record AreCounted (shape : Shape) (text counted : List ℕ) : Type 0 where
  pub all : List (Vec ℕ)
  pub rest : List ℕ
  pub cut : lines text ≡ map (λ line. line.items) all ++ rest ∷ []
  pub ordered : List ℕ
  pub in_order : AreInOrder text ordered
  pub kinds : List (Vec ℕ)
  pub left : List ℕ
  pub cut_again : lines ordered ≡ map (λ line. line.items) kinds ++ left ∷ []
  pub reported : counted ≡ flat_map (counted_line shape all) kinds
