use Rattle.std.proofs.Common.{length, Bool, true, subst, eqb-true, sym, ap, ◌∙◌, arith}
use Rattle.pz_classes_code.specs.CodeView.{view, list_view}
use Rattle.pz_eval_operations.specs.devices.Sites.{place_of, memory_of}
use Rattle.pz_eval_machine.specs.devices.Turns.{Begins}
use Rattle.pz_eval_machine.proofs.Turning.{turn_rest, turn_done}
use Rattle.pz_eval_machine.proofs.choosing.quick_turns.Goals as goal

pub turns-preserved : goal.turns-preserved
turns-preserved c =
    let begins : Begins c.args.depth (place_of c.turns.activation.site) (memory_of c.turns.activation c.turns.state.held) (view c.args.test.now) c.turns.units c.turn_begins.new.units true =
    subst (λ (b : Bool). Begins c.args.depth (place_of c.turns.activation.site) (memory_of c.turns.activation c.turns.state.held) (view c.args.test.now) c.turns.units c.turn_begins.new.units b) c.turns-test.true c.turn_begins.ensures in
    record {
      goes = λ law model now at.
          turn_done law model now c.args.depth (place_of c.args.activation.now.site) (place_of c.turns.activation.site) at (view c.args.test.now) (list_view c.args.body.now) (memory_of c.turns.activation c.turns.state.held) (memory_of c.assign_numbers.new.activation c.assign_numbers.new.state.held) c.turns.units c.turn_begins.new.units c.assign_numbers.new.units c.in_ok-left.left.now
          (ap place_of c.turns.invariant.site) begins (λ next. c.in_ok-left.ensures.goes model now next)
          (eqb-true (length c.in_ok-left.left.now) 0 (sym c.is_empty.ensures ∙ c.if-not-is_empty.false))
          ∙ c.turns.invariant.goes law model now at;
      marks = c.assign_numbers.ensures.marks ∙ c.turns.invariant.marks;
      count = c.assign_numbers.ensures.count ∙ c.turns.invariant.count;
      site = c.assign_numbers.ensures.site ∙ c.turns.invariant.site;
      tasks = c.assign_numbers.ensures.tasks ∙ c.turns.invariant.tasks;
      within = c.assign_numbers.ensures.within;
      units = omega (arith, begins.2, c.in_ok-left.ensures.units, c.turns.invariant.units);
    }

pub returns-then-not-is_empty-clause-goes : goal.returns-then-not-is_empty-clause-goes
returns-then-not-is_empty-clause-goes c law model now at =
    turn_rest law model now c.args.depth (place_of c.args.activation.now.site) (place_of c.turns.activation.site) at (view c.args.test.now) (list_view c.args.body.now) (memory_of c.turns.activation c.turns.state.held) (memory_of c.assign_numbers.new.activation c.assign_numbers.new.state.held) c.turns.units c.turn_begins.new.units c.assign_numbers.new.units c.in_ok-left.left.now
    (ap place_of c.turns.invariant.site) (subst (λ (b : Bool). Begins c.args.depth (place_of c.turns.activation.site) (memory_of c.turns.activation c.turns.state.held) (view c.args.test.now) c.turns.units c.turn_begins.new.units b) c.turns-test.true c.turn_begins.ensures) (λ next. c.in_ok-left.ensures.goes model now next)
    ∙ c.turns.invariant.goes law model now at
