use Rattle.std.proofs.Common.{arith}
use Rattle.std.proofs.lemmas.Result.{on_ok_weaker}
use Rattle.pz_check_components.specs.devices.Walking.{walk_view}
use Rattle.pz_check_components.proofs.Steps.{to_closed, open_ended}
use Rattle.pz_check_components.proofs.walk.Walk.step.Goals as goal

pub returns-in-Some : goal.returns-in-Some
returns-in-Some c = on_ok_weaker c.close.result (λ result _. to_closed c.args.edges.now (walk_view c.args.self.now) _ c.in-Some.group c.pop.result _ _ c.requires c.in-Some.ensures (omega arith) c.pop.ensures.items c.pop.ensures.value result) c.close.ensures

pub returns-in-None : goal.returns-in-None
returns-in-None c = on_ok_weaker c.follow.result (λ goes_on going. goes_on c.requires (open_ended c.args.edges.now (walk_view c.args.self.now) c.in-None.ensures going)) c.follow.ensures
