use Rattle.pz_term_residual.proofs.Inward.{par_within, sel_within}
use Rattle.pz_term_residual.proofs.levels.step_in.Goals as goal

pub into_parallel-requires : goal.into_parallel-requires
into_parallel-requires c = par_within c.args.term c.in-Par.parts c.args.child c.in-Par.is c.requires

pub into_select-requires : goal.into_select-requires
into_select-requires c = sel_within c.args.term c.in-Sel.parts c.args.child c.in-Sel.is c.requires
