pub returns : Rattle.capcore.proofs.own_laws.what_is_served_at_once_is_not_rejected.Goals.returns
returns c = λ old last client ino operation moves settled sound order free made. Rattle.capcore.proofs.OwnServed.own-not_rejected old.scene client ino operation sound.at_rest order moves settled free made
