use Rattle.pz_term_residual.proofs.Inward.{parallel_inside}
use Rattle.pz_term_residual.proofs.levels.into_parallel.Goals as goal

pub returns : goal.returns
returns c =
    parallel_inside c.args.frame c.args.parts c.into_vec-parts.result.items c.exchange-term.new.parts.items c.from_vec.result c.args.child c.exchange-term.result
    c.into_vec-parts.ensures c.exchange-term.ensures.old c.exchange-term.ensures.new c.from_vec.ensures c.requires
