use Rattle.pz_check_components.specs.devices.Walking.{walk_view}
use Rattle.pz_check_components.proofs.Steps.{to_new, to_path, to_done}
use Rattle.pz_check_components.proofs.walk.Walk.follow.Goals as goal

pub returns-in_ok-open-in-Unseen : goal.returns-in_ok-open-in-Unseen
returns-in_ok-open-in-Unseen c walk ended = to_new c.args.edges.now (walk_view c.args.self.now) _ _ c.in-Some.vertex c.as_slice.ensures.value c.in-Some.ensures.items walk ended _ c.in-Unseen.ensures c.in_ok-open-in-Unseen.ensures

pub returns-in-Open : goal.returns-in-Open
returns-in-Open c walk ended = to_path c.args.edges.now (walk_view c.args.self.now) _ _ c.in-Some.vertex c.as_slice.ensures.value c.in-Some.ensures.items walk ended c.in-Open.place _ c.in-Open.ensures c.join.ensures.joined c.join.ensures.low

pub returns-in-Done : goal.returns-in-Done
returns-in-Done c walk ended = to_done c.args.edges.now (walk_view c.args.self.now) _ _ c.in-Some.vertex c.as_slice.ensures.value c.in-Some.ensures.items walk ended _ c.in-Done.ensures
