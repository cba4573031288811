pub returns : Rattle.capcore.proofs.laws.the_held_are_apart.Goals.returns
returns c = Rattle.capcore.proofs.Apart.held-apart
