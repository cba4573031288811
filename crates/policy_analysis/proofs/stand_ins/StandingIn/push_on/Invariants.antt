use Rattle.std.proofs.Common.{◌≡◌, ℕ, ◌+◌, ◌≤◌, List, length, take}
use Rattle.std.specs.Prelude.{option_map}
use Rattle.std.specs.Borrow.{Bor}
use Rattle.policy_analysis.specs.StandIns.{Adds, allowing, terms_in}
use Rattle.policy_analysis.proofs.stand_ins.StandingIn.push_on.Given as goal

abbrev pub invariant-loop-grant : goal.invariant-loop-grant
invariant-loop-grant l = record {
  few : length l.owns.items ≤ 16;
  same : Adds l.self.vxattr (terms_in l.self) l.self.maybe (option_map (λ (name : Bor (List ℕ)). name.now) l.fs) (take l.grant-index l.grants) l.initial.owns.items l.owns.items;
  count : length l.owns.items ≡ length l.initial.owns.items + length (allowing l.self.vxattr (terms_in l.self) l.self.maybe (take l.grant-index l.grants));
}
