use Rattle.pz_tree.proofs.tree.Tree.names_clock.Given as goal

-- a counter that nobody reads
abbrev pub ghosts-kept_under : goal.ghosts-kept_under
ghosts-kept_under a = record { name = a.ledger.name; parts = a.ledger.parts }
