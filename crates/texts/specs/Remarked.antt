-- What an answer tells with what is left to the client.
use Rattle.std.specs.Prelude.{◌≡◌, ℕ, ◌<◌, ◌^◌, Option, Some, None, List, length}
use Rattle.capspec.specs.declared.grant.Grant.{Grant}
use Rattle.capgrant.specs.declared.access.Attr.{Attr}
use Rattle.capgrant.specs.Question.{Question}
use Rattle.texts.specs.Lines.{HasNumber}

-- the numbers fit of a question, and of what this many grants say to it
pub record HasNumbers (q : Question) (grants : List Grant) : Type 0 where
  pub access : HasNumber q.access
  pub owner : q.attr.uid < 2 ^ 32
  pub group : q.attr.gid < 2 ^ 32
  pub mode : q.attr.mode < 2 ^ 12
  pub few : length grants < 2 ^ 32

-- the same grant leaves the same inode to the client, or none does
abbrev pub AreLeftAlike : Attr → Option ℕ → Attr → Option ℕ → Type 0
AreLeftAlike attr None another None = Unit {0}
AreLeftAlike attr (Some grant) another (Some other) = (attr ≡ another) × (grant ≡ other)
AreLeftAlike attr left another also = ⊥
