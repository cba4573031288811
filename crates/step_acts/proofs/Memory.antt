-- Which requests take memory.
use Rattle.std.proofs.Common.{◌≡◌, true, arith}
use Rattle.step_acts.proofs.Common.{Operation, takes_memory}
use Rattle.step_acts.specs.Served.{is_rename}

-- one that is to move an inode does, for the name
pub rename-takes : (operation : Operation) → is_rename operation ≡ true → takes_memory operation ≡ true
rename-takes operation is = grind arith
