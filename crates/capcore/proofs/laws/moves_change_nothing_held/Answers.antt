pub returns : Rattle.capcore.proofs.laws.moves_change_nothing_held.Goals.returns
returns c = λ first settled moves made. (Rattle.capcore.proofs.Common.moved-all first moves settled made).table
