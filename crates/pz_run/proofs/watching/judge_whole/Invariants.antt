use Rattle.pz_run.proofs.watching.judge_whole.Given as goal

-- the ledger is a new one
abbrev pub ghosts-judge_from : goal.ghosts-judge_from
ghosts-judge_from g a = record { name = a.ledger.name; parts = a.ledger.parts }
