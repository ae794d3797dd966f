use Rattle.pz_tree.proofs.tree.Tree.receives.Given as goal

-- a counter that nobody reads
abbrev pub ghosts-receives_in : goal.ghosts-receives_in
ghosts-receives_in a = record { name = a.ledger.name; parts = a.ledger.parts }
