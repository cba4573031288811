-- Which fault a line has, and why one gave no event.
use Rattle.std.specs.Prelude.{◌≡◌, ◌≢◌, ℕ, List}
use Rattle.capspec.specs.declared.fault.SpecFault.{SpecFault}
use Rattle.capspec.specs.declared.fault.SpecFaultKind.TheVariants as kinds
use Rattle.capspec.specs.Faults.{IsFault}
use Rattle.capstep.specs.declared.event.Event.{Event}
use Rattle.texts.specs.declared.fault.LineFault.{LineFault}
use Rattle.texts.specs.declared.fault.LineFault.TheVariants as faults
use Rattle.capexplain.specs.declared.refused.Refused.{Refused}
use Rattle.capexplain.specs.declared.refused.Refused.TheVariants as refusals
use Rattle.texts.specs.declared.fault.ScriptFault.{ScriptFault}
use Rattle.texts.specs.declared.fault.ScriptFault.TheVariants as stops
use Rattle.capexplain.specs.Events.{Line, Reads, Tells, line_says}
use Rattle.capexplain.specs.Events.Line.{Faulty, Grants, Names, Nothing, Says}
use Rattle.capexplain.specs.Values.{SpellsNone}

-- the line has the fault; of a grant text, it is the fault that the text has, and of a word that has to spell caps, that it spells none
abbrev pub Has : Line → LineFault → Type 0
Has Nothing fault = ⊥
Has (Says event) fault = ⊥
Has (Grants said text) fault = (grants_fault : SpecFault) × IsFault text grants_fault × (fault ≡ faults.Grants grants_fault)
Has (Names said word) fault = SpellsNone word × (fault ≡ faults.Caps)
Has (Faulty found) fault = fault ≡ found

abbrev pub HasFault : List ℕ → LineFault → Type 0
HasFault text fault = Has (line_says text) fault

-- want of memory stays that; any other fault of a grant text is one of its line
abbrev pub IsRefusedFor : SpecFault → Refused → Type 0
IsRefusedFor fault (refusals.Wrong kind) = (kind ≡ faults.Grants fault) × (fault.kind ≢ kinds.NoMemory)
IsRefusedFor fault refusals.NoMemory = fault.kind ≡ kinds.NoMemory

-- why a line gave no event: its fault, or want of memory where it says one
abbrev pub IsRefused : Line → Refused → Type 0
IsRefused line (refusals.Wrong fault) = Has line fault
IsRefused line refusals.NoMemory = (event : Event) × Tells line event

-- why reading the line of this number gave nothing: its fault, or want of memory where it says an event
abbrev pub IsStop : ℕ → List ℕ → ScriptFault → Type 0
IsStop number text (stops.LineFault line kind) = (line ≡ number) × HasFault text kind
IsStop number text stops.NoMemory = (event : Event) × Reads text event
IsStop number text stops.ReadFault = ⊥
IsStop number text stops.WriteFault = ⊥
