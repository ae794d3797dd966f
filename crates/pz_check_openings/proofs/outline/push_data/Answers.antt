use Rattle.std.proofs.Common.{refl, arith}
use Rattle.pz_check_openings.proofs.Listed.{one_none}
use Rattle.pz_check_openings.proofs.outline.push_data.Goals as goal

pub loop-method-preserved : goal.loop-method-preserved
loop-method-preserved c = one_none c.args.outlines.now c.loop-method.outlines c.push.new.self c.loop-method._method _ refl c.in_ok-push.ensures.ok c.loop-method.invariant
