pub returns : Rattle.capcore.proofs.laws.a_settling_serves_at_most_who_waits.Goals.returns
returns c = λ first settled moves order made. Rattle.capcore.proofs.Moved.served-count first moves settled order made
