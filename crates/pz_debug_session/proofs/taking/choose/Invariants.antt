use Rattle.pz_debug_session.proofs.taking.choose.Given as goal

-- the ledger is a new one
abbrev pub ghosts-choose_in : goal.ghosts-choose_in
ghosts-choose_in g a = record { name = a.ledger.name; parts = a.ledger.parts }
