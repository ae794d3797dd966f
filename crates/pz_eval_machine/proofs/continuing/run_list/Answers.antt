use Rattle.std.proofs.Common.{ap, subst, ◌∙◌, length, Option, Some}
use Rattle.std.specs.Prelude.{IfSome}
use Rattle.pz_classes_code.specs.CodeView.{view, list_view}
use Rattle.pz_classes_code.specs.pz_value.declared.value.Value.{Value}
use Rattle.pz_state.specs.References.{RefersWithin}
use Rattle.pz_eval_operations.specs.devices.AtOnce.{Assigned}
use Rattle.pz_eval_operations.specs.devices.Sites.{place_of, memory_of}
use Rattle.pz_eval_machine.specs.devices.Tasks.{pending}
use Rattle.pz_eval_machine.specs.devices.Weights.{list_weight}
use Rattle.pz_eval_machine.proofs.Arguments.{no_more_counted}
use Rattle.pz_eval_machine.proofs.Going.{then_same}
use Rattle.pz_eval_machine.proofs.Onward.{done_assigned, list_assigned, list_over}
use Rattle.pz_eval_machine.proofs.continuing.run_list.Goals as goal

pub list-preserved : goal.list-preserved
list-preserved c =
    let found : Assigned c.args.depth (place_of c.list.activation.site) (view c.in-Some.first.now) (memory_of c.list.activation c.list.state.held) c.list.units (memory_of c.assign_at_once.new.activation c.assign_at_once.new.state.held) c.assign_at_once.new.units (Some c.in-Some-2.value) =
    done_assigned c.args.depth (place_of c.list.activation.site) (view c.in-Some.first.now) (memory_of c.list.activation c.list.state.held) (memory_of c.assign_at_once.new.activation c.assign_at_once.new.state.held) c.list.units c.assign_at_once.new.units c.in_ok-value.field-0 c.in-Some-2.value c.in-Some-2.is c.in_ok-value.ensures.assigned in
    record {
      goes = λ model now.
          list_assigned model now c.args.depth (place_of c.list.activation.site) (place_of c.assign_at_once.new.activation.site) c.list.last c.in-Some-2.value c.in-Some.first.now c.in-Some.rest.now c.list.left.now (memory_of c.list.activation c.list.state.held) (memory_of c.assign_at_once.new.activation c.assign_at_once.new.state.held) c.list.units c.assign_at_once.new.units
          (ap place_of c.assign_at_once.ensures.site) c.in-Some.ensures.cases.0 found
          ∙ c.list.invariant.goes model now;
      marks = c.assign_at_once.ensures.marks ∙ c.list.invariant.marks;
      count = c.assign_at_once.ensures.count ∙ c.list.invariant.count;
      site = c.assign_at_once.ensures.site ∙ c.list.invariant.site;
      tasks = c.assign_at_once.ensures.tasks ∙ c.list.invariant.tasks;
      value = subst (λ (o : Option Value). IfSome o (RefersWithin (length c.assign_at_once.new.state.held.objects))) c.in-Some-2.is c.in_ok-value.ensures.value;
      within = c.assign_at_once.ensures.within;
      weighs = no_more_counted c.args.units.now (list_weight (list_view c.args.codes.now)) c.list.units (list_weight (list_view c.list.left.now)) c.assign_at_once.new.units (list_weight (list_view c.in-Some.rest.now)) c.list.invariant.weighs found.0;
    }

pub returns-clause-goes : goal.returns-clause-goes
returns-clause-goes c model now =
    list_over model now c.args.depth (place_of c.list.activation.site) (memory_of c.list.activation c.list.state.held) c.list.units (pending model now (place_of c.list.activation.site) c.list.activation.tasks.items) c.list.last c.list.left.now c.in_default.ensures.cases
    ∙ then_same model now (place_of c.list.activation.site) (place_of c.args.activation.now.site) c.list.activation.tasks.items c.args.activation.now.tasks.items (c.list.invariant.goes model now) (ap place_of c.list.invariant.site) (ap (λ ts. ts.items) c.list.invariant.tasks)
