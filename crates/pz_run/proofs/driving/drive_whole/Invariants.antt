use Rattle.pz_run.proofs.driving.drive_whole.Given as goal

-- the ledger is a new one
abbrev pub ghosts-drive_from : goal.ghosts-drive_from
ghosts-drive_from g a = record { name = a.ledger.name; parts = a.ledger.parts }
