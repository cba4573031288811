-- Two texts of grants compared.
use Rattle.std.specs.Prelude.{◌≡◌, ℕ, Option, MatchOption, IsTrue, List}
use Rattle.capspec.specs.declared.grant.Grant.{Grant}
use Rattle.capspec.specs.Faults.{IsFault}
use Rattle.capspec.specs.Grants.{Reads}
use Rattle.policy_analysis.specs.declared.witness.Witness.{Witness}
use Rattle.policy_analysis.specs.Comparing.{Covers, CoversBut, IsWitness, is_root}
use Rattle.texts.specs.Comparing.{comparison}
use Rattle.texts.specs.Changes.{change_lines}
use Rattle.queries.specs.declared.comparing.CompareFault.{CompareFault}
use Rattle.queries.specs.declared.comparing.CompareFault.TheVariants.{New, NoMemory, Old}
use Rattle.queries.specs.declared.clients.Telling.{Telling}
use Rattle.queries.specs.declared.clients.Telling.TheVariants.{Line, More, Object}
use Rattle.queries.specs.ComparingMore.{AddsSections, own_answer}

-- What is told of the new grants: nothing, where the old ones cover them, else a witness, which is of root only where no other shows it.
abbrev pub IsGain : List Grant → List Grant → Option Witness → Type 0
IsGain old new found = MatchOption found (Covers old new) (λ w. IsWitness old new w × (IsTrue (is_root w.caller) → CoversBut is_root old new))

-- this is told of them in this way: a line for each; or these, and behind them what each release tells of the two texts that answers otherwise; or objects
abbrev pub AreTold : Telling → List ℕ → List ℕ → Option Witness → Option Witness → List ℕ → Type 0
AreTold Line old new gain loss lines = lines ≡ comparison gain loss
AreTold More old new gain loss lines = AddsSections (own_answer gain loss) old new (comparison gain loss) lines
AreTold Object old new gain loss lines = lines ≡ change_lines gain loss

-- the lines tell, in this way, what the grants after allow and those before deny, and the other way round
pub record Compares (telling : Telling) (old new : List ℕ) (before after : List Grant) (lines : List ℕ) : Type 0 where
  pub gain : Option Witness
  pub loss : Option Witness
  pub gained : IsGain before after gain
  pub lost : IsGain after before loss
  pub told : AreTold telling old new gain loss lines

-- The lines compare the grants that the two texts mean.
abbrev pub IsComparison : Telling → List ℕ → List ℕ → List ℕ → Type 0
IsComparison telling old new lines = (before after : List Grant) × Reads old before × Reads new after × Compares telling old new before after lines

-- why they are not compared: the first fault of the old text, else that of the new one; want of memory only where both are good
abbrev pub IsFaultOfTexts : List ℕ → List ℕ → CompareFault → Type 0
IsFaultOfTexts old new (Old refused) = IsFault old refused
IsFaultOfTexts old new (New refused) = ((grants : List Grant) × Reads old grants) × IsFault new refused
IsFaultOfTexts old new NoMemory = ((grants : List Grant) × Reads old grants) × ((grants : List Grant) × Reads new grants)
