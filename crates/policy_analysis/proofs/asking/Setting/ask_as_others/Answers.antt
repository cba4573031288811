use Rattle.std.proofs.Common.{◌≡◌, ap}
use Rattle.policy_analysis.specs.Asking.{NoneAsOthersOf, Setting}
use Rattle.policy_analysis.proofs.Loops.{all_of, nobody_too, one_more}
use Rattle.policy_analysis.proofs.asking.Setting.ask_as_others.Goals as goal

pub loop-grant-preserved : goal.loop-grant-preserved
loop-grant-preserved c =
    let same : c.self.inside.old.now ≡ c.args.self.now.old = ap (λ (s : Setting). s.old) c.self.view_is in
    one_more (λ h. NoneAsOthersOf c.args.self.now c.args.caller.now h.gids) c.args.self.now.old c.loop-grant.grant-index c.grant-item.result (rw same at c.loop-grant-test.true) (rw same at c.grant-item.is) c.loop-grant.invariant (rw (← c.as_slice.ensures) c.in_default.ensures.none)

pub returns-clause-none : goal.returns-clause-none
returns-clause-none c =
    let same : c.self.inside.old.now ≡ c.args.self.now.old = ap (λ (s : Setting). s.old) c.self.view_is in
    nobody_too c.args.self.now c.args.caller.now c.ask_as_other.result c.self.inside.nobody (ap (λ (s : Setting). s.nobody) c.self.view_is)
    (all_of (λ h. NoneAsOthersOf c.args.self.now c.args.caller.now h.gids) c.args.self.now.old c.loop-grant.grant-index (rw same at c.loop-grant-test.false) c.loop-grant.invariant)
    c.ask_as_other.ensures.none
