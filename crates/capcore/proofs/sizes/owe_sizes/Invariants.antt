use Rattle.std.proofs.Common.{◌≡◌, take, IsTrue, All}
use Rattle.capcore.proofs.CommonPieces.{changed_where, has_session, is_sized, owed}
use Rattle.capcore.proofs.sizes.owe_sizes.Given as goal

abbrev pub invariant-loop-ino : goal.invariant-loop-ino
invariant-loop-ino l = record {
  owes : l.table ≡ record l.fn.table { entries = changed_where (is_sized (take l.ino-index l.sized)) owed l.fn.table.entries };
  clients : All (λ row. IsTrue (has_session l.sessions row.holder.client.0)) l.table.entries.rows;
}
