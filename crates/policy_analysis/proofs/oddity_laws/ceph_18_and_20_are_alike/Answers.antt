use Rattle.policy_analysis.proofs.Alike.{odd_alike, read_alike}
use Rattle.policy_analysis.proofs.oddity_laws.ceph_18_and_20_are_alike.Goals as goal

pub returns-clause-read : goal.returns-clause-read
returns-clause-read c = read_alike

pub returns-clause-odd : goal.returns-clause-odd
returns-clause-odd c = odd_alike
