pub returns : Rattle.capcore.proofs.laws.a_step_that_finds_memory_has_one_end.Goals.returns
returns c = λ old new other e a b xs ys order step step' finds again. Rattle.capcore.proofs.Determined.step-once old e order a b xs ys new other step step' finds again
