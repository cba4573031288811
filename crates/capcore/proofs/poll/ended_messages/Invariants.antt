use Rattle.std.proofs.Common.{◌≡◌, take}
use Rattle.capcore.proofs.CommonPieces.{end_messages}

abbrev pub invariant-loop-one : Rattle.capcore.proofs.poll.ended_messages.Given.invariant-loop-one
invariant-loop-one l = l.list ≡ take l.max (end_messages l.client (take l.one-index l.ended))
