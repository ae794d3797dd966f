use Rattle.rows_nodes.proofs.main.Given as goal

abbrev pub ghosts-put_and_take : goal.ghosts-put_and_take
ghosts-put_and_take a = record { name = a.ledger.name; parts = a.ledger.parts }

abbrev pub ghosts-plant_and_cut : goal.ghosts-plant_and_cut
ghosts-plant_and_cut a = record { name = a.ledger.name; parts = a.ledger.parts }
