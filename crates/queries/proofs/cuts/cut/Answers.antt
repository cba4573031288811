use Rattle.std.proofs.Common.{◌≡◌, ◌-◌, ℕ, true, false, nat_eq, drop, sym, ◌∙◌, arith, rules}
use Rattle.std.specs.List.{starts_with}
use Rattle.queries.specs.Cuts.{is_any}
use Rattle.queries.proofs.Marks.{misses, no_start}
use Rattle.queries.proofs.cuts.cut.Goals as goal

pub loop-end-preserved : goal.loop-end-preserved
loop-end-preserved c =
    let mark = c.args.mark.now in
    let text = c.args.text.now in
    let at : ℕ = c.loop-end.end - 1 in
    let miss : starts_with nat_eq (drop at text) mark ≡ false = search rules in
    record {
      within = omega arith;
      same = sym (misses is_any mark text c.loop-end.end at (omega arith) (no_start (starts_with nat_eq (drop at text) mark) true miss)) ∙ c.loop-end.invariant.same;
    }
