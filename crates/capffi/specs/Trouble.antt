-- The numbers by which C is told why a call has no answer.
use Rattle.std.specs.Prelude.{ℕ}
use Rattle.capspec.specs.declared.fault.SpecFaultKind.{SpecFaultKind}
use Rattle.capspec.specs.declared.fault.SpecFaultKind.TheVariants as kinds
use Rattle.capffi.specs.declared.passed.Fault.{Fault}
use Rattle.capffi.specs.declared.trouble.Trouble.{Trouble}
use Rattle.capffi.specs.declared.trouble.Trouble.TheVariants as troubles

-- the status that tells of a trouble
abbrev pub status_of : Trouble → ℕ
status_of (troubles.Grants fault) = 1
status_of troubles.Fs = 2
status_of troubles.Groups = 3
status_of troubles.Path = 4
status_of troubles.Mode = 5
status_of troubles.Access = 6
status_of troubles.Part = 7
status_of troubles.State = 8
status_of troubles.Head = 9
status_of troubles.Caps = 10
status_of troubles.Memory = 12
status_of troubles.Block = 15

-- the number of a kind of fault
abbrev pub kind_number : SpecFaultKind → ℕ
kind_number kinds.Empty = 1
kind_number kinds.NotAllow = 2
kind_number kinds.BadFlags = 3
kind_number kinds.BadItem = 4
kind_number kinds.Twice = 5
kind_number kinds.BadNumber = 6
kind_number kinds.OpenQuote = 7
kind_number kinds.GidsWithoutUid = 8
kind_number kinds.LeftOut = 9
kind_number kinds.TooMany = 10
kind_number kinds.BadPath = 11
kind_number kinds.NoMemory = 12

-- no fault
abbrev pub no_fault : Fault
no_fault = record { at = 0; kind = 0 }

-- the fault of the grants, where that is the trouble
abbrev pub fault_of : Trouble → Fault
fault_of (troubles.Grants fault) = record { at = fault.at; kind = kind_number fault.kind }
fault_of trouble = no_fault
