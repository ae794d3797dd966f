use Rattle.std.proofs.Common.{List, ◌+◌, drop, get_or, sym, subst}
use Rattle.std.specs.List.{All}
use Rattle.std.proofs.lemmas.List.{drop_more}
use Rattle.std.proofs.lemmas.List.Elements.{All-push}
use Rattle.pz_rules.specs.View.{term_view}
use Rattle.pz_rules.specs.Leaving.{residual}
use Rattle.pz_term_residual.specs.declared.levels.Level.{Level}
use Rattle.pz_term_residual.specs.devices.Unwound.{HasItsPlace}
use Rattle.pz_term_residual.proofs.Unwinding.{may_inside, further_in}
use Rattle.pz_term_residual.proofs.settling.take_apart.Goals as goal

pub loop-child-preserved : goal.loop-child-preserved
loop-child-preserved c =
    let place = drop c.loop-child.child-index c.args.place.now in
    let inner = drop (c.loop-child.child-index + 1) c.args.place.now in
    let child = get_or c.args.place.now c.loop-child.child-index 0 in
    let is = drop_more c.args.place.now c.loop-child.child-index 0 c.loop-child-test.true in
    let inside = c.step_in-inside.result in
    record {
      may = may_inside c.loop-child.frame.0 (term_view c.loop-child.term) place inner child inside is c.step_in-inside.ensures c.loop-child.invariant.may;
      around = λ home. further_in home c.loop-child.levels.items c.push.new.self.items inside c.loop-child.frame.0 (term_view c.loop-child.term) place inner child
          (λ p. residual home 0 (term_view c.args.term) c.args.place.now p) c.in_ok-push.ensures.items is c.step_in-inside.ensures (c.loop-child.invariant.around home);
      places = subst (λ (ls : List Level). All HasItsPlace ls) (sym c.in_ok-push.ensures.items) (All-push HasItsPlace c.loop-child.levels.items inside.level c.loop-child.invariant.places c.step_in-inside.ensures.place);
    }
