use Rattle.pz_sim_totals.proofs.levels.+find_in.Given as goal

abbrev pub decreases-find_in : goal.decreases-find_in
decreases-find_in l = l.len
