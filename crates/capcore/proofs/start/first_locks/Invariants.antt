abbrev pub invariant-loop-number : Rattle.capcore.proofs.start.first_locks.Given.invariant-loop-number
invariant-loop-number l = Rattle.capcore.proofs.FirstLocks.AreFirstBelow l.tree.nodes l.number l.locks.locks
