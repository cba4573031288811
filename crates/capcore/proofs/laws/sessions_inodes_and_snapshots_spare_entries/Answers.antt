use Rattle.capcore.proofs.Unaffected.{birth-spares, changed-spares, session-spares, unblocked-spares}
use Rattle.capcore.proofs.laws.sessions_inodes_and_snapshots_spare_entries.Goals as goal

pub returns-clause-session : goal.returns-clause-session
returns-clause-session c = λ s client caller grants sound. session-spares s sound client caller grants

pub returns-clause-inode : goal.returns-clause-inode
returns-clause-inode c = λ s kind dir name attr sound. birth-spares s sound kind dir name attr

pub returns-clause-snapshot : goal.returns-clause-snapshot
returns-clause-snapshot c = λ s f ino sound. changed-spares s sound f ino

pub returns-clause-unblocked : goal.returns-clause-unblocked
returns-clause-unblocked c = λ s client sound. unblocked-spares s sound client
