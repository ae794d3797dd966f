use Rattle.std.proofs.Common.{Some}
use Rattle.std.proofs.lemmas.List.Elements.{All-pop}
use Rattle.pz_rules.specs.View.{term_view}
use Rattle.pz_rules.specs.Settings.{left_by}
use Rattle.pz_term_around.specs.pz_part_opening.Homes.{home_view}
use Rattle.pz_term_residual.specs.devices.Unwound.{put_round, unwound, HasItsPlace}
use Rattle.pz_term_residual.proofs.Unwinding.{further_out, marks_stay}
use Rattle.pz_term_residual.proofs.settling.put_together.Goals as goal

pub loop-level-preserved : goal.loop-level-preserved
loop-level-preserved c =
    let inside = left_by c.loop-level.state.held (term_view c.loop-level.left) in
    record {
      so_far = further_out (home_view c.args.home.now) c.loop-level.levels.items c.pop.new.self.items c.in-Some.level c.loop-level.state c.put_around.new.state (term_view c.loop-level.left) (term_view c.in_ok-left.left)
          (unwound (home_view c.args.home.now) c.args.levels.items (left_by c.args.state.now.held (term_view c.args.left))) c.in-Some.ensures.items c.in_ok-left.ensures c.loop-level.invariant.so_far;
      marks = marks_stay (put_round (home_view c.args.home.now) c.in-Some.level inside) (term_view c.in_ok-left.left) c.args.state.now c.loop-level.state c.put_around.new.state c.in_ok-left.ensures c.loop-level.invariant.marks;
      places = (All-pop HasItsPlace c.loop-level.levels.items c.pop.new.self.items (Some c.in-Some.level) c.in-Some.ensures.items c.loop-level.invariant.places).0;
    }
