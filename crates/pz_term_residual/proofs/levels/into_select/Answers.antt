use Rattle.pz_term_residual.proofs.Inward.{select_inside}
use Rattle.pz_term_residual.proofs.levels.into_select.Goals as goal

pub returns : goal.returns
returns c = select_inside c.args.frame c.args.parts c.into_vec-parts.result.items c.args.child c.exchange-term.result c.into_vec-parts.ensures c.exchange-term.ensures.old
