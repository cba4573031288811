pub returns : Rattle.capcore.proofs.laws.the_served_are_denied_exactly.Goals.returns
returns c = Rattle.capcore.proofs.Servings.served-denied
