use Rattle.pz_run.proofs.playing.play_whole.Given as goal

-- the ledger is a new one
abbrev pub ghosts-play_from : goal.ghosts-play_from
ghosts-play_from g a = record { name = a.ledger.name; parts = a.ledger.parts }
