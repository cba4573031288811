use Rattle.std.proofs.Common.{sym, subst}
use Rattle.policy_analysis.specs.ComparingBy.{Terms}
use Rattle.queries.specs.ComparingBy.{IsGainBy}
use Rattle.queries.proofs.ComparedBy.{gain_by}
use Rattle.queries.proofs.comparing_by.BothGrants.changes.Goals as goal

pub returns : goal.returns
returns c =
    let before = c.args.self.now.before in
    let after = c.args.self.now.after in
    let gain = c.in_ok-gained_by.field-0 in
    let loss = c.in_ok-gained_by-2.field-0 in
    record {
      gained = subst (λ (t : Terms). IsGainBy t before.grants after.grants gain) (sym c.requires) (gain_by after.terms before.grants after.grants gain c.in_ok-gained_by.ensures.exact c.in_ok-gained_by.ensures.root_last);
      lost = gain_by before.terms after.grants before.grants loss c.in_ok-gained_by-2.ensures.exact c.in_ok-gained_by-2.ensures.root_last;
      networks = c.networks_of.ensures;
    }
