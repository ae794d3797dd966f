use Rattle.rows_term.proofs.models.show_net_on_trees.Given as goal

-- the ledger is a new one
abbrev pub ghosts-show_on : goal.ghosts-show_on
ghosts-show_on a = record { name = a.ledger.name; parts = a.ledger.parts }
