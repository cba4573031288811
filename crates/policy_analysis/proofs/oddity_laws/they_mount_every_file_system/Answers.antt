use Rattle.policy_analysis.proofs.Odd.{mounts_each}
use Rattle.policy_analysis.proofs.oddity_laws.they_mount_every_file_system.Goals as goal

pub returns : goal.returns
returns c = mounts_each
