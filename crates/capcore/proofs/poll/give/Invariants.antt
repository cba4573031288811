use Rattle.std.proofs.Common.{◌≡◌, take}
use Rattle.capcore.proofs.CommonPieces.{after_messages, changed_where, is_of_client}

abbrev pub invariant-loop-message : Rattle.capcore.proofs.poll.give.Given.invariant-loop-message
invariant-loop-message l = l.table ≡ record l.fn.table { entries = changed_where (is_of_client l.client) (after_messages (take l.message-index l.given)) l.fn.table.entries }
