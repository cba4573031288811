use Rattle.std.proofs.Common.{◌≡◌, ℕ, List, Option, rules, sym, subst}
use Rattle.std.proofs.lemmas.Result.{IfOk-weaker}
use Rattle.capspec.specs.declared.grant.Grant.{Grant}
use Rattle.policy_analysis.specs.declared.witness.Witness.{Witness}
use Rattle.queries.specs.Comparing.{AreTold, Compares, IsGain}
use Rattle.queries.specs.declared.clients.Telling.{Telling}
use Rattle.queries.specs.declared.clients.Telling.TheVariants.{Line, More, Object}
use Rattle.queries.proofs.comparing.comparison.Goals as goal

reported : (telling way : Telling) (old new : List ℕ) (before after : List Grant) (gain loss : Option Witness) (lines : List ℕ) → IsGain before after gain → IsGain after before loss → telling ≡ way → AreTold way old new gain loss lines
    → Compares telling old new before after lines
reported telling way old new before after gain loss lines gained lost is told = record {
  gain = gain;
  loss = loss;
  gained = gained;
  lost = lost;
  told = subst (λ (t : Telling). AreTold t old new gain loss lines) (sym is) told;
}

pub returns-in-Line : goal.returns-in-Line
returns-in-Line c =
    let gain = c.in_ok-gain.gain in
    let loss = c.in_ok-loss.loss in
    let before = c.args.before.now in
    let after = c.args.after.now in
    let gained : IsGain before after gain = search rules in
    let lost : IsGain after before loss = search rules in
    IfOk-weaker c.comparison_lines.result _ _ (λ lines is. reported c.args.telling Line c.args.old.now c.args.new.now before after gain loss lines.items gained lost c.in-Line.is is) c.comparison_lines.ensures

pub returns-in-More : goal.returns-in-More
returns-in-More c =
    let gain = c.in_ok-gain.gain in
    let loss = c.in_ok-loss.loss in
    let before = c.args.before.now in
    let after = c.args.after.now in
    let gained : IsGain before after gain = search rules in
    let lost : IsGain after before loss = search rules in
    IfOk-weaker c.lines_beside.result _ _ (λ lines is. reported c.args.telling More c.args.old.now c.args.new.now before after gain loss lines.items gained lost c.in-More.is is) c.lines_beside.ensures

pub returns : goal.returns
returns c =
    let gain = c.in_ok-gain.gain in
    let loss = c.in_ok-loss.loss in
    let before = c.args.before.now in
    let after = c.args.after.now in
    let gained : IsGain before after gain = search rules in
    let lost : IsGain after before loss = search rules in
    IfOk-weaker c.change_objects.result _ _ (λ lines is. reported c.args.telling Object c.args.old.now c.args.new.now before after gain loss lines.items gained lost c.in-Object.is is) c.change_objects.ensures
