use Rattle.rows_match.proofs.main.Given as goal

abbrev pub ghosts-show : goal.ghosts-show
ghosts-show a = record { name = a.ledger.name; parts = a.ledger.parts }

abbrev pub ghosts-time : goal.ghosts-time
ghosts-time a = record { name = a.ledger.name; parts = a.ledger.parts }
