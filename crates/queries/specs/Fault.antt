-- How a refused grant text is answered.
use Rattle.std.specs.Prelude.{◌≡◌, ◌≢◌, ℕ, List}
use Rattle.capspec.specs.Faults.{IsFault}
use Rattle.capspec.specs.Grants.{Reads}
use Rattle.capspec.specs.declared.grant.Grant.{Grant}
use Rattle.capspec.specs.declared.fault.SpecFault.{SpecFault}
use Rattle.capspec.specs.declared.fault.SpecFaultKind.TheVariants as kinds
use Rattle.queries.specs.declared.fault.QuestionFault.{QuestionFault}
use Rattle.queries.specs.declared.fault.QuestionFault.TheVariants.{BadValue, Grants, NoMemory}

-- want of memory stays that; any other fault is passed on as it is
abbrev pub IsFaultOf : SpecFault → QuestionFault → Type 0
IsFaultOf refused (Grants same) = (same ≡ refused) × (refused.kind ≢ kinds.NoMemory)
IsFaultOf refused (BadValue option) = ⊥
IsFaultOf refused NoMemory = refused.kind ≡ kinds.NoMemory

-- why the text gave no grants: its first fault, or want of memory where it has none
abbrev pub IsFaultOfText : List ℕ → QuestionFault → Type 0
IsFaultOfText text (Grants refused) = IsFault text refused
IsFaultOfText text (BadValue option) = ⊥
IsFaultOfText text NoMemory = (grants : List Grant) × Reads text grants
