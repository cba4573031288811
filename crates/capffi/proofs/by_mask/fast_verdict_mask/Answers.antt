use Rattle.std.proofs.Common.{List, subst, ℕ}
use Rattle.std.specs.Prelude.{Ok}
use Rattle.capffi.specs.declared.passed.Answer.{Answer}
use Rattle.capffi.specs.ByMask.{IsFastToMask, IsMaskJudgedOn}
use Rattle.capffi.proofs.Telling.{tells_more}
use Rattle.capffi.proofs.by_mask.fast_verdict_mask.Goals as goal

pub returns : goal.returns
returns c =
    let One : Answer → Type 0 = IsFastToMask c.args.block.now c.args.text.now c.without_slash-bare.result.now c.args.check.now in
    let All : Answer → Type 0 = IsFastToMask c.args.block.now c.args.text.now c.args.path.now c.args.check.now in
    tells_more One All c.args.answer.now c.fast_bare.new.answer c.fast_bare.result (λ (a : Answer). λ (is : One a). λ (groups : List ℕ).
    let found = is groups in (
      found.0,
      found.1,
      subst (λ (names : List (List ℕ)). IsMaskJudgedOn c.args.block.now c.args.text.now names groups c.args.check.now (Ok found.0)) c.without_slash-bare.ensures found.2,
      found.3,
    )) c.fast_bare.ensures
