-- What the lines of `who` tell, client by client.
use Rattle.std.specs.Prelude.{◌≡◌, ◌≢◌, ℕ, ◌<◌, ◌^◌, Bool, Option, IfSome, List, ◌++◌, length, All}
use Rattle.std.specs.List.{AllZip, flat_map}
use Rattle.capspec.specs.declared.fault.SpecFault.{SpecFault}
use Rattle.capgrant.specs.declared.access.Attr.{Attr}
use Rattle.ceph_input.specs.Auth.{Named}
use Rattle.policy_analysis.specs.declared.standing.Standing.{Standing}
use Rattle.policy_analysis.specs.Callers.{Wanted}
use Rattle.release_rules.specs.declared.beside.Others.{Others}
use Rattle.texts.specs.Explaining.{path_text}
use Rattle.texts.specs.Lines.{HasGrantIf, HasNumber}
use Rattle.texts.specs.MdsTold.{AreCounted}
use Rattle.texts.specs.Standing.{standing_line, standing_others, unread_line}
use Rattle.queries.specs.declared.clients.Telling.{Telling}
use Rattle.queries.specs.declared.clients.Telling.TheVariants.{Object}
use Rattle.queries.specs.Clients.{AreLines, Says}

-- of a client of this name what is said to what is asked, and where releases answer otherwise; or what is wrong with its grants
pub data Reported : Type 0 where
  judged : List ℕ → Wanted → Standing → Others → Reported
  unread : List ℕ → SpecFault → Reported

abbrev pub reported_lines : Reported → List ℕ
reported_lines (judged client w standing others) = standing_line client w.access w.path standing ++ standing_others client others
reported_lines (unread client fault) = unread_line client fault

-- its numbers fit
abbrev pub HasNumbers : Reported → Type 0
HasNumbers (judged client w standing others) = HasNumber w.access × HasGrantIf standing × AreCounted others
HasNumbers (unread client fault) = fault.at < 2 ^ 64

-- of two paths the text counts
abbrev pub SameReported : Reported → Reported → Type 0
SameReported (judged c w s others) (judged d u t further) = (c ≡ d) × (w.access ≡ u.access) × (path_text w.path ≡ path_text u.path) × (s ≡ t) × (others ≡ further)
SameReported (unread c f) (unread d g) = (c ≡ d) × (f ≡ g)
SameReported x y = ⊥

-- texts that are the same tell the same, one client after the other
abbrev pub OneText : Type 0
OneText = (xs ys : List Reported) → All HasNumbers xs → All HasNumbers ys → flat_map reported_lines xs ≡ flat_map reported_lines ys → AllZip SameReported xs ys

-- the text of its grants has a length of 63 bits
abbrev pub HasLength : Named → Type 0
HasLength e = IfSome e.caps (λ text. length text < 2 ^ 63)

-- what `who` prints, if not objects, is such a text
abbrev pub EachHasItsLines : Type 0
EachHasItsLines = (telling : Telling) (w : Wanted) (attr : Option Attr) (es : List Named) (judged : Bool) (lines : List ℕ) → telling ≢ Object → HasNumber w.access
    → All HasLength es → AreLines (Says telling w attr) es judged lines → (xs : List Reported) × All HasNumbers xs × (lines ≡ flat_map reported_lines xs)
