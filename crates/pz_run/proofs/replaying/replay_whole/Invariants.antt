use Rattle.pz_run.proofs.replaying.replay_whole.Given as goal

-- the ledger is a new one
abbrev pub ghosts-replay_from : goal.ghosts-replay_from
ghosts-replay_from g a = record { name = a.ledger.name; parts = a.ledger.parts }
