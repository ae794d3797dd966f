use Rattle.pz_watch.proofs.formulas.+formula.Given as goal

abbrev pub decreases-formula : goal.decreases-formula
decreases-formula l = l.most
