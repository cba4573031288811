pub returns : Rattle.capcore.proofs.shown_laws.a_step_shows_what_it_tells.Goals.returns
returns c = Rattle.capcore.proofs.Common.step-shown
