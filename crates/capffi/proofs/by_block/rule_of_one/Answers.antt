use Rattle.std.proofs.Common.{List, refl, rules, ℕ}
use Rattle.capgrant.specs.declared.answer.Verdict.{Verdict}
use Rattle.capgrant.specs.Verdict.{verdict_of}
use Rattle.capffi.specs.Blocks.{bare_names, block_fs, block_grants}
use Rattle.capffi.specs.ByBlock.{case_of}
use Rattle.capffi.proofs.by_block.rule_of_one.Goals as goal

pub returns : goal.returns
returns c =
    λ (groups : List ℕ).
    let found = rw (c.case_of-case.ensures, c.split_front.ensures.front, c.split_front.ensures.behind, c.in_ok-mode.ensures.0) at (c.in_ok-rule.ensures groups) in
    let verdict : Verdict = verdict_of (case_of (block_fs c.args.block.now c.args.text.now) (bare_names c.args.path.now) groups c.args.question.now c.in_ok-access.access) (block_grants c.args.block.now c.args.text.now) in
    (verdict, (c.in_ok-access.access, c.in_ok-mode.ensures.1, search rules, refl), found)
