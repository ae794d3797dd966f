use Rattle.pz_tree.proofs.tree.Tree.sends.Given as goal

-- a counter that nobody reads
abbrev pub ghosts-sends_in : goal.ghosts-sends_in
ghosts-sends_in a = record { name = a.ledger.name; parts = a.ledger.parts }
