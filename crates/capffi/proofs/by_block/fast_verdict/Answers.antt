use Rattle.std.proofs.Common.{◌≤◌, ℕ, List, length, subst}
use Rattle.std.specs.Prelude.{Ok}
use Rattle.capffi.specs.declared.passed.Answer.{Answer}
use Rattle.capffi.specs.ByBlock.{IsBlockJudgedOn, IsFast}
use Rattle.capffi.proofs.Telling.{tells_more}
use Rattle.capffi.proofs.by_block.fast_verdict.Goals as goal

pub returns : goal.returns
returns c =
    let One : Answer → Type 0 = IsFast c.args.block.now c.args.text.now c.without_slash-bare.result.now c.args.question.now in
    let All : Answer → Type 0 = IsFast c.args.block.now c.args.text.now c.args.path.now c.args.question.now in
    tells_more One All c.args.answer.now c.fast_bare.new.answer c.fast_bare.result (λ (a : Answer). λ (is : One a). λ (groups : List ℕ). λ (few : length groups ≤ 16).
    let found = is groups few in (
      found.0,
      subst (λ (names : List (List ℕ)). IsBlockJudgedOn c.args.block.now c.args.text.now names groups c.args.question.now (Ok found.0)) c.without_slash-bare.ensures found.1,
      found.2,
    )) c.fast_bare.ensures
