use Rattle.std.proofs.Common.{◌≡◌, sym, subst}
use Rattle.capffi.specs.declared.passed.Answer.{Answer}
use Rattle.capffi.specs.ByBlock.{IsFast, alone}
use Rattle.capffi.proofs.Telling.{tells_more}
use Rattle.capffi.proofs.by_block.fast_bare.Goals as goal

pub returns-in-Some : goal.returns-in-Some
returns-in-Some c =
    let Is : Answer → Type 0 = IsFast c.args.block.now c.args.text.now c.args.path.now c.args.question.now in
    tells_more (λ (a : Answer). a ≡ alone c.in-Some.rule) Is c.args.answer.now c.tell_alone.new.answer c.tell_alone.result (λ (a : Answer). λ (is : a ≡ alone c.in-Some.rule). subst Is (sym is) c.in-Some.ensures) c.tell_alone.ensures
