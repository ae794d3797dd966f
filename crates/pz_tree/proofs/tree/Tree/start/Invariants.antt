use Rattle.pz_tree.proofs.tree.Tree.start.Given as goal

-- a counter that nobody reads
abbrev pub ghosts-start_in : goal.ghosts-start_in
ghosts-start_in a = record { name = a.ledger.name; parts = a.ledger.parts }
