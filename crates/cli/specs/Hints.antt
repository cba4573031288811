-- What is hinted at where the line of a fault doesn't tell its cause.
use Rattle.std.specs.Prelude.{Bool, List, None, Option, Some, codes, false, true, ℕ}
use Rattle.texts.specs.declared.fault.ScriptFault.TheVariants as stops
use Rattle.cli.specs.declared.serve_fault.ServeFault.TheVariants as serve_faults
use Rattle.cli.specs.declared.stopping.Fault.{Fault}
use Rattle.cli.specs.declared.stopping.Fault.TheVariants as faults

-- why a script was not read, by whether a read would have had to wait, and whether one failed; where none failed the script is too long
abbrev pub hint_unread : Bool → Bool → Option (List ℕ)
hint_unread true failed = Some (codes "standard input had nothing yet, and is set not to wait for more")
hint_unread false true = None
hint_unread false false = Some (codes "a script has at most 16777216 bytes")

-- the hint of a fault
abbrev pub hint_of : Fault → Bool → Bool → Option (List ℕ)
hint_of (faults.Script stops.ReadFault) blocked failed = hint_unread blocked failed
hint_of (faults.Serve (serve_faults.Script stops.ReadFault)) blocked failed = hint_unread blocked failed
hint_of (faults.Serve serve_faults.NoThread) blocked failed = Some (codes "a thread was not to be had, or no memory for it")
hint_of fault blocked failed = None
