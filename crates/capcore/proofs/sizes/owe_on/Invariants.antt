use Rattle.std.proofs.Common.{◌≡◌, take}
use Rattle.std.specs.List.{fold}
use Rattle.capcore.proofs.AtEnd.{named}
use Rattle.capcore.proofs.CommonPieces.{changed_by, owed}
use Rattle.capcore.proofs.sizes.owe_on.Given as goal

abbrev pub invariant-loop-number : goal.invariant-loop-number
invariant-loop-number l = l.table ≡ record l.fn.table { entries = fold (changed_by owed) l.fn.table.entries (take l.number-index (named l.ino l.numbers)) }
