use Rattle.pz_tree.proofs.tree.Tree.kth_internal.Given as goal

-- a counter that nobody reads
abbrev pub ghosts-kth_in : goal.ghosts-kth_in
ghosts-kth_in a = record { name = a.ledger.name; parts = a.ledger.parts }
