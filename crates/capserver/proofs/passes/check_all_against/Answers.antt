use Rattle.std.proofs.Common.{◌≡◌, ◌∙◌, ℕ, suc, ◌+◌, List, take, subst, arith}
use mathlib.Core.List.{IsPrefix}
use Rattle.capstep.specs.declared.row.Row.{Row}
use Rattle.capserver.specs.Passes.{AllBegin}
use Rattle.capserver.proofs.Numbering.{begin_all, begin_more}
use Rattle.capserver.proofs.passes.check_all_against.Goals as goal

pub loop-pass-preserved : goal.loop-pass-preserved
loop-pass-preserved g c =
    let n : ℕ = c.loop-pass.pass-index in
    let rows : List Row = c.args.recorder.now in
    let known : List Row = c.pass-item.result.known in
    let next : suc n ≡ n + 1 = omega arith in
    let begins : IsPrefix known rows = subst (IsPrefix known) c.loop-pass.invariant.same c.check_against.ensures.begins in
    record {
      same = c.check_against.ensures.same ∙ c.loop-pass.invariant.same;
      begin = subst (λ (m : ℕ). AllBegin rows (take m c.args.passes.now)) next (begin_more rows n c.args.passes.now c.pass-item.result c.loop-pass.invariant.begin (omega arith) c.pass-item.is begins);
    }

pub returns : goal.returns
returns g c = begin_all c.args.recorder.now c.loop-pass.pass-index c.args.passes.now (omega arith) c.loop-pass.invariant.begin
