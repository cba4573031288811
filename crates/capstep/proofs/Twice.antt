-- A value that is given and recorded.
use Rattle.std.proofs.Common.{◌≡◌, ◌∙◌, ap, sym}
use Rattle.capstep.specs.Recorded.{twice}
use Rattle.capstep.specs.declared.recorded.Recorded.{Recorded}

module _ {T : Type 0} (one : Recorded T) (value : T) (is : one ≡ twice value) where
  -- it is what the client is given
  pub given-twice : one.given ≡ value
  given-twice = ap (λ (r : Recorded T). r.given) is

  -- and the history keeps what the client is given
  pub recorded-twice : one.recorded ≡ one.given
  recorded-twice = ap (λ (r : Recorded T). r.recorded) is ∙ sym given-twice

module _ {T : Type 0} (given recorded value : T) where
  abbrev pub pair : Recorded T
  pair = record { given = given; recorded = recorded }

  -- where both are the value
  pub both-twice : given ≡ value → recorded ≡ value → pair ≡ twice value
  both-twice gives keeps = λ i. record { given = gives i; recorded = keeps i }
