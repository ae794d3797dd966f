use Rattle.std.proofs.Common.{◌≡◌, ◌-◌, Bool, subst, arith}
use Rattle.pz_classes_code.specs.pz_value.declared.value.Value.TheVariants.{Bool as Boolean}
use Rattle.pz_classes_code.specs.CodeView.{view}
use Rattle.pz_eval_operations.specs.pz_eval_rules.Answers.{gives}
use Rattle.pz_eval_operations.specs.pz_eval_rules.devices.Computed.{done, evaluated}
use Rattle.pz_eval_operations.specs.devices.Sites.{place_of, memory_of}
use Rattle.pz_eval_machine.proofs.choosing.turn_begins.Goals as goal

pub returns : goal.returns
returns c = (
  c.args.units.now - 1,
  omega (arith, c.if-units-eq0.false),
  omega (arith, c.in-Some.ensures.0),
  λ model now.
      subst (λ (b : Bool). evaluated model now c.args.depth (place_of c.args.activation.now.site) (view c.args.test.now) (memory_of c.args.activation.now c.args.state.now.held) (c.args.units.now - 1)
      ≡ done (gives (Boolean b) (memory_of c.args.activation.now c.args.state.now.held)) c.truth_at_once.new.units) c.if-not-goes.false (c.in-Some.ensures.1 model now),
)
