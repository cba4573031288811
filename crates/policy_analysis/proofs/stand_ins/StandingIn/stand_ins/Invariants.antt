use Rattle.std.proofs.Common.{◌≡◌, ◌*◌, ◌≤◌, [], length, take}
use Rattle.policy_analysis.specs.StandIns.{allowing, named_after, terms_in}
use Rattle.policy_analysis.proofs.Mounting.{StandOnNamed}
use Rattle.policy_analysis.proofs.stand_ins.StandingIn.stand_ins.Given as goal

abbrev pub invariant-loop-place : goal.invariant-loop-place
invariant-loop-place l = record {
  few : length l.owns.items ≤ 16;
  same : StandOnNamed l.self.vxattr (terms_in l.self) l.self.maybe l.grants l.place l.owns.items;
  count : length l.owns.items ≡ length (named_after [] (take l.place l.grants)) * length (allowing l.self.vxattr (terms_in l.self) l.self.maybe l.grants);
}
