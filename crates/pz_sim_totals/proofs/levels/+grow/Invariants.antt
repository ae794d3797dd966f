use Rattle.pz_sim_totals.proofs.levels.+grow.Given as goal

abbrev pub decreases-grow : goal.decreases-grow
decreases-grow l = l.len
