use Rattle.std.proofs.Common.{List, refl, ℕ}
use Rattle.capffi.specs.ByMask.{verdict_on}
use Rattle.capffi.specs.Blocks.{bare_names}
use Rattle.capffi.proofs.Masks.{told_one}
use Rattle.capffi.proofs.by_mask.fast_of_one.Goals as goal

pub returns : goal.returns
returns c =
    λ (groups : List ℕ). (
      record { access = c.args.access; verdict = verdict_on c.args.block.now c.args.text.now (bare_names c.args.path.now) groups c.args.check.now c.args.access },
      c.requires.asked,
      told_one c.args.block.now c.args.text.now c.args.path.now groups c.args.path.now c.args.check.now c.args.access c.requires.whole (c.if-not-is_plain_fast.ensures.fit refl) (c.if-not-is_plain_fast.ensures.names refl) c.requires.known c.requires.asked,
      c.in_ok-rule.ensures groups,
    )
