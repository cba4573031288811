-- What a client is given and the history keeps.
use Rattle.capstep.specs.declared.recorded.Recorded.{Recorded}

-- the value twice: the client is given it, and the history keeps it
abbrev pub twice : {T : Type 0} → T → Recorded T
twice value = record { given = value; recorded = value }
