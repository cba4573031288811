use Rattle.std.proofs.Common.{◌≤◌, ℕ, List, length, refl}
use Rattle.std.specs.Prelude.{Ok}
use Rattle.capffi.proofs.Filled.{said_of_text}
use Rattle.capffi.proofs.by_block.fast_of_one.Goals as goal

pub returns : goal.returns
returns c =
    λ (groups : List ℕ). λ (few : length groups ≤ 16).
    let found = c.in_ok-rule.ensures groups in (
      found.0,
      said_of_text c.args.block.now c.args.text.now c.args.path.now groups c.args.path.now c.args.question.now (Ok found.0) c.requires.whole few (c.if-not-is_plain_fast.ensures.fit refl) (c.if-not-is_plain_fast.ensures.names refl) found.1,
      found.2,
    )
