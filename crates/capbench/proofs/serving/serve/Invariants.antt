use Rattle.capbench.proofs.serving.serve.Given as goal

abbrev pub ghosts-served-L-Ledger : goal.ghosts-served-L-Ledger
ghosts-served-L-Ledger g a = record { name = a.blank.name; parts = a.blank.parts }

-- the opening that was just made
abbrev pub ghosts-served-L-Server : goal.ghosts-served-L-Server
ghosts-served-L-Server g a = record { opening = a.opening.state; max_rows = a.opening.max_rows; history = a.opening.history; tally = a.opening.tally }
