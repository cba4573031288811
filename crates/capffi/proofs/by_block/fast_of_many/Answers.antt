use Rattle.std.proofs.Common.{◌≤◌, ℕ, List, length, refl}
use Rattle.std.specs.Prelude.{Ok}
use Rattle.capffi.specs.declared.passed.Answer.{Answer}
use Rattle.capffi.specs.Blocks.{bare_names}
use Rattle.capffi.specs.ByBlock.{IsFast, IsFastOf}
use Rattle.capffi.proofs.Filled.{said_of_text}
use Rattle.capffi.proofs.Telling.{tells_more}
use Rattle.capffi.proofs.by_block.fast_of_many.Goals as goal

pub returns : goal.returns
returns c =
    let One : Answer → Type 0 = IsFastOf c.args.block.now c.args.text.now (bare_names c.args.path.now) c.args.question.now in
    let All : Answer → Type 0 = IsFast c.args.block.now c.args.text.now c.args.path.now c.args.question.now in
    tells_more One All c.args.answer.now c.fast_of_any.new.answer c.fast_of_any.result (λ (a : Answer). λ (is : One a). λ (groups : List ℕ). λ (few : length groups ≤ 16).
    let found = is groups in (
      found.0,
      said_of_text c.args.block.now c.args.text.now c.args.path.now groups c.args.path.now c.args.question.now (Ok found.0) (c.if-not-is_block.ensures.0 refl) few (c.if-not-is_plain_fast.ensures.fit refl) (c.if-not-is_plain_fast.ensures.names refl) found.1,
      found.2,
    )) c.fast_of_any.ensures
