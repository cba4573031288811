use Rattle.std.proofs.Common.{List, refl, ℕ}
use Rattle.capffi.specs.declared.passed.Answer.{Answer}
use Rattle.capffi.specs.ByMask.{IsFastOn, IsFastToMask, verdict_on}
use Rattle.capffi.specs.Blocks.{bare_names}
use Rattle.capffi.proofs.Masks.{told_one}
use Rattle.capffi.proofs.Telling.{tells_more}
use Rattle.capffi.proofs.by_mask.fast_of_many.Goals as goal

pub returns : goal.returns
returns c =
    let One : Answer → Type 0 = IsFastOn c.args.block.now c.args.text.now (bare_names c.args.path.now) c.args.check.now c.in-Some.access in
    let All : Answer → Type 0 = IsFastToMask c.args.block.now c.args.text.now c.args.path.now c.args.check.now in
    let access = c.in-Some.ensures in
    tells_more One All c.args.answer.now c.fast_of_any.new.answer c.fast_of_any.result (λ (a : Answer). λ (is : One a). λ (groups : List ℕ). (
      record { access = c.in-Some.access; verdict = verdict_on c.args.block.now c.args.text.now (bare_names c.args.path.now) groups c.args.check.now c.in-Some.access },
      access.1,
      told_one c.args.block.now c.args.text.now c.args.path.now groups c.args.path.now c.args.check.now c.in-Some.access (c.if-not-is_block.ensures.0 refl) (c.if-not-is_plain_fast.ensures.fit refl) (c.if-not-is_plain_fast.ensures.names refl) access.0 access.1,
      is groups,
    )) c.fast_of_any.ensures
