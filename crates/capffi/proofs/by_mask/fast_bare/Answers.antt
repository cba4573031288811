use Rattle.std.proofs.Common.{◌≡◌, sym, subst}
use Rattle.capffi.specs.declared.passed.Answer.{Answer}
use Rattle.capffi.specs.ByBlock.{alone}
use Rattle.capffi.specs.ByMask.{IsFastToMask}
use Rattle.capffi.proofs.Telling.{tells_more}
use Rattle.capffi.proofs.by_mask.fast_bare.Goals as goal

pub returns-in-Some-fast_of_one : goal.returns-in-Some-fast_of_one
returns-in-Some-fast_of_one c =
    let Is : Answer → Type 0 = IsFastToMask c.args.block.now c.args.text.now c.args.path.now c.args.check.now in
    tells_more (λ (a : Answer). a ≡ alone c.in-Some-fast_of_one.rule) Is c.args.answer.now c.tell_alone.new.answer c.tell_alone.result (λ (a : Answer). λ (is : a ≡ alone c.in-Some-fast_of_one.rule). subst Is (sym is) c.in-Some-fast_of_one.ensures) c.tell_alone.ensures
