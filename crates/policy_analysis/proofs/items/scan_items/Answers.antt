use Rattle.std.proofs.Common.{◌≡◌, ◌<◌, false, length, sym, ap, ◌∙◌, arith}
use Rattle.capspec.specs.Bytes.{ends_grant}
use Rattle.capspec.specs.Words.{next}
use Rattle.policy_analysis.proofs.Scanned.{found_all, left_all, left_behind, rest_shorter}
use Rattle.policy_analysis.proofs.items.scan_items.Goals as goal

pub loop-item-init : goal.loop-item-init
loop-item-init c = (left_all c.args.text.now c.args.before, omega arith)

pub returns-then-ends_grant-clause-reported : goal.returns-then-ends_grant-clause-reported
returns-then-ends_grant-clause-reported c items tail has =
    found_all c.loop-item.rest.now c.loop-item.last c.loop-item.found _ tail (c.loop-item.invariant.0 items tail has) (ap ends_grant (sym c.skip_white-item.ensures) ∙ sym c.ends_grant.ensures ∙ c.if-ends_grant.true)

goes_on : (c : goal.After-behind_item-rest) → ends_grant (next c.loop-item.rest.now) ≡ false
goes_on c = ap ends_grant (sym c.skip_white-item.ensures) ∙ sym c.ends_grant.ensures ∙ c.if-ends_grant.false

shorter : (c : goal.After-behind_item-rest) → length c.behind_item-rest.result.now < length c.loop-item.rest.now
shorter c = rw (c.behind_item-rest.ensures, c.skip_white-item.ensures) (rest_shorter c.loop-item.rest.now (goes_on c))

pub loop-item-preserved : goal.loop-item-preserved
loop-item-preserved c = (
  (λ items tail has.
      rw (c.behind_item-rest.ensures, c.or-found.ensures, c.wrong_at.ensures, c.key_at.ensures, c.skip_white-item.ensures)
      (left_behind c.loop-item.rest.now c.loop-item.last c.loop-item.found _ tail (goes_on c) (c.loop-item.invariant.0 items tail has))),
  omega (arith, shorter c, c.loop-item.invariant.1),
)

pub loop-item-smaller : goal.loop-item-smaller
loop-item-smaller c = shorter c
