use Rattle.std.proofs.Common.{◌∙◌, sym, ap, arith, get_or}
use Rattle.std.proofs.lemmas.List.Sums.{fold_more}
use Rattle.captable.specs.declared.entry.Holder.{Holder}
use Rattle.captable.specs.Kept.{KeptTable}
use Rattle.captable.specs.Many.{asking, changed_by}
use Rattle.captable.specs.Table.{Table}
use Rattle.captable.proofs.table.CapTable.ask_all.Goals as goal

pub loop-holder-preserved : goal.loop-holder-preserved
loop-holder-preserved c =
    let d : Holder = record { client = record { 0 = 0 }; ino = record { 0 = 0 } } in
    let now = c.args.self.now in
    c.ask.ensures ∙ ap (λ (t : KeptTable). record t { entries = changed_by asking t.entries (get_or c.args.holders.now c.loop-holder.holder-index d) }) c.loop-holder.invariant
    ∙ sym (ap (λ (es : Table). record now { entries = es }) (fold_more (changed_by asking) now.entries c.args.holders.now c.loop-holder.holder-index d (omega (arith, c.loop-holder-test.true))))
