-- The status with which the program ends.
use Rattle.std.specs.Prelude.{ℕ}
use Rattle.capbench.specs.declared.fault.Fault.{Fault}
use Rattle.capbench.specs.declared.fault.Fault.TheVariants.{Changed, Full, InVain, NoJob, NoMemory, ReadFailed, Text, Usage, WriteFailed}

-- 2 where the words are not understood, else 1
abbrev pub status_of : Fault → ℕ
status_of Usage = 2
status_of NoJob = 2
status_of Text = 1
status_of Changed = 1
status_of InVain = 1
status_of Full = 1
status_of NoMemory = 1
status_of ReadFailed = 1
status_of WriteFailed = 1
