use Rattle.pz_sim_totals.proofs.levels.+set_in.Given as goal

abbrev pub decreases-set_in : goal.decreases-set_in
decreases-set_in l = l.len
