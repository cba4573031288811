use Rattle.std.proofs.Common.{◌≡◌, take}
use Rattle.std.specs.List.{fold}
use Rattle.captable.specs.Many.{asking, changed_by}
use Rattle.captable.proofs.table.CapTable.ask_all.Given as goal

abbrev pub invariant-loop-holder : goal.invariant-loop-holder
invariant-loop-holder l = l.self ≡ record l.fn.self { entries = fold (changed_by asking) l.fn.self.entries (take l.holder-index l.holders) }
