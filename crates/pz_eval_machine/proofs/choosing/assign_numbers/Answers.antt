use Rattle.std.proofs.Common.{ap, ◌∙◌, subst, arith, ℤ, Option, Some, None}
use Rattle.std.specs.Prelude.{option_map}
use Rattle.pz_classes_code.specs.pz_value.declared.value.Value.TheVariants.{Int}
use Rattle.pz_classes_code.specs.CodeView.{view}
use Rattle.pz_eval_operations.specs.devices.AtOnce.{Assigned}
use Rattle.pz_eval_operations.specs.devices.Sites.{place_of, memory_of}
use Rattle.pz_eval_machine.proofs.Turning.{numbers_more, numbers_same}
use Rattle.pz_eval_machine.proofs.choosing.assign_numbers.Goals as goal

pub list-preserved : goal.list-preserved
list-preserved c =
    let found : Assigned c.args.depth (place_of c.list.activation.site) (view c.in-Some.first.now) (memory_of c.list.activation c.list.state.held) c.list.units (memory_of c.assign_number.new.activation c.assign_number.new.state.held) c.assign_number.new.units (Some (Int c.in-Some-2.field-0)) =
    subst (λ (o : Option ℤ). Assigned c.args.depth (place_of c.list.activation.site) (view c.in-Some.first.now) (memory_of c.list.activation c.list.state.held) c.list.units (memory_of c.assign_number.new.activation c.assign_number.new.state.held) c.assign_number.new.units (option_map (λ z. Int z) o)) c.in-Some-2.is c.in_ok-assign_number.ensures.assigned in
    record {
      goes = λ model now next.
          numbers_more model now c.args.depth (place_of c.args.activation.now.site) next (place_of c.list.activation.site) (Int c.in-Some-2.field-0) c.in-Some.first.now c.in-Some.rest.now c.list.left.now (memory_of c.list.activation c.list.state.held) (memory_of c.assign_number.new.activation c.assign_number.new.state.held) c.list.units c.assign_number.new.units
          (ap place_of c.list.invariant.site) c.in-Some.ensures.cases.0 found
          ∙ c.list.invariant.goes model now next;
      marks = c.assign_number.ensures.marks ∙ c.list.invariant.marks;
      count = c.assign_number.ensures.count ∙ c.list.invariant.count;
      site = c.assign_number.ensures.site ∙ c.list.invariant.site;
      tasks = c.assign_number.ensures.tasks ∙ c.list.invariant.tasks;
      within = c.assign_number.ensures.within;
      units = omega (arith, found.0, c.list.invariant.units);
    }

pub returns-in-None-clause-goes : goal.returns-in-None-clause-goes
returns-in-None-clause-goes c model now next =
    let found : Assigned c.args.depth (place_of c.list.activation.site) (view c.in-Some.first.now) (memory_of c.list.activation c.list.state.held) c.list.units (memory_of c.assign_number.new.activation c.assign_number.new.state.held) c.assign_number.new.units None =
    subst (λ (o : Option ℤ). Assigned c.args.depth (place_of c.list.activation.site) (view c.in-Some.first.now) (memory_of c.list.activation c.list.state.held) c.list.units (memory_of c.assign_number.new.activation c.assign_number.new.state.held) c.assign_number.new.units (option_map (λ z. Int z) o)) c.in-None.is c.in_ok-assign_number.ensures.assigned in
    numbers_same model now c.args.depth (place_of c.args.activation.now.site) next c.list.left.now (memory_of c.list.activation c.list.state.held) (memory_of c.assign_number.new.activation c.assign_number.new.state.held) c.list.units c.assign_number.new.units found.0 found.1 (c.list.invariant.goes model now next)
