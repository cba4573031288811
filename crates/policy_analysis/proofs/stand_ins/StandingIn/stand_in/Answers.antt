use Rattle.std.proofs.Common.{ℕ, List}
use Rattle.std.specs.Prelude.{option_map}
use Rattle.std.specs.Borrow.{Bor}
use Rattle.policy_analysis.specs.StandIns.{IsWhyNone}
use Rattle.policy_analysis.proofs.StoodIn.{handed_on, too_many_gids}
use Rattle.policy_analysis.proofs.stand_ins.StandingIn.stand_in.Goals as goal

pub returns-in_err-fsname-clause-err : goal.returns-in_err-fsname-clause-err
returns-in_err-fsname-clause-err c =
    handed_on (IsWhyNone c.args.self.switches (option_map (λ (name : Bor (List ℕ)). name.now) c.args.fs) c.args.grant.now) _ _ c.from_residual.ensures.1 c.in_err-fsname.ensures.err

pub returns-in_err-path-clause-err : goal.returns-in_err-path-clause-err
returns-in_err-path-clause-err c =
    let fs = option_map (λ (name : Bor (List ℕ)). name.now) c.args.fs in
    handed_on (IsWhyNone c.args.self.switches fs c.args.grant.now) _ _ c.from_residual-in_err-path.ensures.1 (c.in_err-path.ensures.err fs)

pub returns-in_err-gids_for-clause-err : goal.returns-in_err-gids_for-clause-err
returns-in_err-gids_for-clause-err c =
    let fs = option_map (λ (name : Bor (List ℕ)). name.now) c.args.fs in
    handed_on (IsWhyNone c.args.self.switches fs c.args.grant.now) _ _ c.from_residual-in_err-gids_for.ensures.1
    (too_many_gids c.args.self.switches fs c.args.grant.now _ c.user_of-uid.result c.user_of-uid.ensures c.in_err-gids_for.ensures.err)
