use Rattle.pz_sim.proofs.starting.kept_of.Given as goal

-- a counter that nobody reads
abbrev pub ghosts-pairs_of : goal.ghosts-pairs_of
ghosts-pairs_of a = record { name = a.ledger.name; parts = a.ledger.parts }
