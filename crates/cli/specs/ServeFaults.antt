-- How a call that was not answered is told.
use Rattle.capstep.specs.declared.stop.Stop.{Stop}
use Rattle.capstep.specs.declared.stop.Stop.TheVariants as stopped
use Rattle.texts.specs.declared.fault.ScriptFault.TheVariants as stops
use Rattle.cli.specs.declared.serve_fault.ServeFault.{ServeFault}
use Rattle.cli.specs.declared.serve_fault.ServeFault.TheVariants.{HistoryFull, Script}

abbrev pub fault_of : Stop → ServeFault
fault_of stopped.NoMemory = Script stops.NoMemory
fault_of stopped.Full = HistoryFull
