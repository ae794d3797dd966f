use Rattle.pz_tree.proofs.tree.Tree.verdict.Given as goal

-- a counter that nobody reads
abbrev pub ghosts-statement_in : goal.ghosts-statement_in
ghosts-statement_in a = record { name = a.ledger.name; parts = a.ledger.parts }
