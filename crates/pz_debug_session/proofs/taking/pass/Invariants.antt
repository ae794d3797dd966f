use Rattle.pz_debug_session.proofs.taking.pass.Given as goal

-- the ledger is a new one
abbrev pub ghosts-pass_in : goal.ghosts-pass_in
ghosts-pass_in g a = record { name = a.ledger.name; parts = a.ledger.parts }
