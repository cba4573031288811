use Rattle.std.proofs.Common.{◌≡◌, ℕ, ◌+◌, Bool, true, false, ◌&&◌, ◌||◌, Option, List, [], length, refl, sym, ap, ◌∙◌}
use Rattle.std.specs.Prelude.{option_map}
use Rattle.std.specs.Borrow.{Bor}
use Rattle.std.proofs.lemmas.List.{take_all}
use Rattle.capspec.specs.declared.grant.Grant.{Grant as OwnGrant}
use Rattle.policy_analysis.specs.ComparingBy.{Terms}
use Rattle.policy_analysis.specs.StandIns.{Adds, IsWhyNotAdded, allows_something, is_on, say, terms_in}
use Rattle.policy_analysis.proofs.Adding.{adds_none, adds_one, nothing_allowed, stand_in_says}
use Rattle.policy_analysis.proofs.StoodIn.{handed_on, more_added, none_added, one_fails, one_has_none, plus_none}
use Rattle.policy_analysis.proofs.stand_ins.StandingIn.push_on.Goals as goal
use Rattle.policy_analysis.proofs.stand_ins.StandingIn.push_on.Goals.{else-allows_something, then-allows_something+in_ok-own+in_ok-push_few}

or_nothing : (a on : Bool) → (a || (on && false)) ≡ a
or_nothing true on = refl
or_nothing false true = refl
or_nothing false false = refl

nothing_added : (vxattr : Bool) (t : Terms) (maybe : Bool) (fs : Option (List ℕ)) (owns : List OwnGrant) → Adds vxattr t maybe fs [] owns owns
nothing_added vxattr t maybe fs owns q can of = sym (or_nothing (say vxattr owns q) (is_on t.switches fs q))

pub loop-grant-init : goal.loop-grant-init
loop-grant-init c = record {
  few = c.requires;
  same = nothing_added c.args.self.vxattr (terms_in c.args.self) c.args.self.maybe (option_map (λ (name : Bor (List ℕ)). name.now) c.args.fs) c.args.owns.now.items;
  count = plus_none (length c.args.owns.now.items);
}

pub loop-grant-preserved : goal.loop-grant-preserved
loop-grant-preserved c =
    let fs = option_map (λ (name : Bor (List ℕ)). name.now) c.args.fs in
    elim c.if-allows_something.branch [
      | then-allows_something+in_ok-own+in_ok-push_few w ↦ record {
        few = rw w.owns-is w.in_ok-push_few.ensures.ok.1;
        same = adds_one c.args.self.vxattr (terms_in c.args.self) c.args.self.maybe fs c.args.grants.now c.args.owns.now.items c.loop-grant.owns.items c.if-allows_something.owns.items c.loop-grant.grant-index c.grant-item.result c.loop-grant-test.true c.grant-item.is c.loop-grant.invariant.same
            w.in_ok-own.own
            (stand_in_says c.args.self.vxattr (terms_in c.args.self) c.args.self.maybe c.grant-item.result fs w.in_ok-own.own w.in_ok-own.ensures.ok (sym c.allows_something.ensures ∙ w.if-allows_something.true))
            (ap (λ v. v.items) w.owns-is ∙ w.in_ok-push_few.ensures.ok.0);
        count = more_added (allows_something (terms_in c.args.self) c.args.self.maybe c.args.self.vxattr) c.args.grants.now c.loop-grant.grant-index c.grant-item.result c.loop-grant-test.true c.grant-item.is (sym c.allows_something.ensures ∙ w.if-allows_something.true)
            (length c.args.owns.now.items) c.loop-grant.owns.items c.if-allows_something.owns.items w.in_ok-own.own c.loop-grant.invariant.count (ap (λ v. v.items) w.owns-is ∙ w.in_ok-push_few.ensures.ok.0);
      }
      | else-allows_something w ↦ record {
        few = rw w.owns-is c.loop-grant.invariant.few;
        same = adds_none c.args.self.vxattr (terms_in c.args.self) c.args.self.maybe fs c.args.grants.now c.args.owns.now.items c.loop-grant.owns.items c.if-allows_something.owns.items c.loop-grant.grant-index c.grant-item.result c.loop-grant-test.true c.grant-item.is c.loop-grant.invariant.same
            (nothing_allowed c.args.self.vxattr (terms_in c.args.self) c.args.self.maybe c.grant-item.result (sym c.allows_something.ensures ∙ w.if-allows_something.false))
            (ap (λ v. v.items) w.owns-is);
        count = rw w.owns-is (c.loop-grant.invariant.count ∙ ap (λ (n : ℕ). length c.args.owns.now.items + n) (sym (one_fails (allows_something (terms_in c.args.self) c.args.self.maybe c.args.self.vxattr) c.args.grants.now c.loop-grant.grant-index c.grant-item.result c.loop-grant-test.true c.grant-item.is (sym c.allows_something.ensures ∙ w.if-allows_something.false))));
      }
    ]

pub returns-clause-same : goal.returns-clause-same
returns-clause-same c = rw (take_all c.loop-grant.grant-index c.args.grants.now c.loop-grant-test.false) at c.loop-grant.invariant.same

pub returns-clause-count : goal.returns-clause-count
returns-clause-count c = rw (take_all c.loop-grant.grant-index c.args.grants.now c.loop-grant-test.false) at c.loop-grant.invariant.count

pub returns-in_err-own-clause-err : goal.returns-in_err-own-clause-err
returns-in_err-own-clause-err c =
    let k = c.args.self in
    let fs = option_map (λ (name : Bor (List ℕ)). name.now) c.args.fs in
    handed_on (IsWhyNotAdded k.vxattr (terms_in k) k.maybe fs c.args.grants.now (length c.args.owns.now.items)) _ _ c.from_residual.ensures.1
    (one_has_none k.vxattr (terms_in k) k.maybe fs c.args.grants.now c.loop-grant.grant-index c.grant-item.result c.loop-grant-test.true c.grant-item.is (sym c.allows_something.ensures ∙ c.if-allows_something.true)
    (length c.args.owns.now.items) _ c.in_err-own.ensures.err)

pub returns-in_err-push_few-clause-err : goal.returns-in_err-push_few-clause-err
returns-in_err-push_few-clause-err c =
    let k = c.args.self in
    let fs = option_map (λ (name : Bor (List ℕ)). name.now) c.args.fs in
    handed_on (IsWhyNotAdded k.vxattr (terms_in k) k.maybe fs c.args.grants.now (length c.args.owns.now.items)) _ _ c.from_residual-in_err-push_few.ensures.1
    (none_added k.vxattr (terms_in k) k.maybe fs c.args.grants.now c.loop-grant.grant-index c.grant-item.result c.loop-grant-test.true c.grant-item.is (sym c.allows_something.ensures ∙ c.if-allows_something.true)
    (length c.args.owns.now.items) (length c.loop-grant.owns.items) _ c.loop-grant.invariant.count c.in_err-push_few.ensures.err)
