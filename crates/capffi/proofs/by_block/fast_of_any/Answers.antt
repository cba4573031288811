use Rattle.std.proofs.Common.{◌≡◌, ℕ, List, refl, rules}
use Rattle.capgrant.specs.declared.answer.Verdict.{Verdict}
use Rattle.capgrant.specs.Verdict.{verdict_of}
use Rattle.capffi.specs.declared.passed.Answer.{Answer}
use Rattle.capffi.specs.Answering.{answer_of}
use Rattle.capffi.specs.Blocks.{bare_names, block_fs, block_grants}
use Rattle.capffi.specs.ByBlock.{IsFastOf, case_of}
use Rattle.capffi.proofs.Telling.{tells_more}
use Rattle.capffi.proofs.by_block.fast_of_any.Goals as goal

pub returns : goal.returns
returns c =
    let verdict : List ℕ → Verdict = λ (groups : List ℕ). verdict_of (case_of (block_fs c.args.block.now c.args.text.now) (bare_names c.args.path.now) groups c.args.question.now c.in-Some-read_access.access) (block_grants c.args.block.now c.args.text.now) in
    let One : Answer → Type 0 = λ (a : Answer). (groups : List ℕ) → a ≡ answer_of (verdict groups) in
    let All : Answer → Type 0 = IsFastOf c.args.block.now c.args.text.now (bare_names c.args.path.now) c.args.question.now in
    let reported = rw (c.case_of-case.ensures, c.split_front.ensures.front, c.split_front.ensures.behind, c.in-Some.ensures.0) at c.fast_verdict.ensures in
    tells_more One All c.args.answer.now c.fast_verdict.new.answer c.fast_verdict.result (λ (a : Answer). λ (is : One a). λ (groups : List ℕ). (verdict groups, (c.in-Some-read_access.access, c.in-Some.ensures.1, search rules, refl), is groups)) reported
