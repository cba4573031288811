pub returns : Rattle.capcore.proofs.laws.an_opening_is_sound.Goals.returns
returns c = Rattle.capcore.proofs.Sounding.opening-sound
