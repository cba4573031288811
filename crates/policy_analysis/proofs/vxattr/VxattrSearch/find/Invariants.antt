use Rattle.std.proofs.Common.{◌≡◌, true, not, ◌||◌, take}
use Rattle.std.specs.Prelude.{All}
use Rattle.policy_analysis.specs.Vxattrs.{CoversOwnersOf, is_of_root}
use Rattle.policy_analysis.proofs.vxattr.VxattrSearch.find.Given as goal

abbrev pub invariant-loop-grant : goal.invariant-loop-grant
invariant-loop-grant l = All (λ g. (l.root || not (is_of_root g)) ≡ true → CoversOwnersOf l.self.old.now g) (take l.grant-index l.self.new.now)
