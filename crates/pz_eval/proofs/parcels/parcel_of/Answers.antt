use Rattle.std.proofs.Common.{List, Ok, length, sym, ap, subst, ◌∙◌}
use Rattle.std.specs.Prelude.{All}
use Rattle.pz_classes_code.specs.pz_value.declared.value.Value.{Value}
use Rattle.pz_classes_code.specs.CodeView.{list_view}
use Rattle.pz_copy.specs.pz_state.References.{RefersWithin}
use Rattle.pz_eval_machine.specs.pz_eval_rules.declared.outcome.Listed.{Listed}
use Rattle.pz_eval_machine.specs.pz_eval_rules.declared.outcome.Listed.TheVariants as listed
use Rattle.pz_eval.specs.Parcels.{no_values, too_much}
use Rattle.pz_eval.proofs.Parceling.{listed_within, found_listed, found_parcel}
use Rattle.pz_eval.proofs.parcels.parcel_of.Goals as goal

pub pack-requires : goal.pack-requires
pack-requires c =
    subst (λ (ys : List Value). All (RefersWithin (length c.eval_list.new.state.held.objects)) ys) (sym c.as_slice.ensures)
    (listed_within c.eval_list.result c.in-Ok-Values.values (length c.eval_list.new.state.held.objects) (c.in-Ok-Values.is ∙ ap (λ (x : Listed). Ok x) c.in-Ok-Values.field-0-is) c.eval_list.ensures.within)

pub returns-in-Ok-Values-clause-finds : goal.returns-in-Ok-Values-clause-finds
returns-in-Ok-Values-clause-finds c m known =
    found_parcel m c.args.clock c.args.frame.0 c.args.state.now.held (list_view c.args.codes.now) c.args.allowance c.eval_list.new.state.held c.in-Ok-Values.values c.as_slice.result.now c.pack.result c.in_parcel.result c.in_parcel.ensures c.as_slice.ensures
    (found_listed m c.args.clock c.args.frame.0 c.args.state.now.held (list_view c.args.codes.now) c.args.allowance c.eval_list.new.state.held c.eval_list.result (listed.Values c.in-Ok-Values.values) (c.in-Ok-Values.is ∙ ap (λ (x : Listed). Ok x) c.in-Ok-Values.field-0-is) (c.eval_list.ensures.finds m known))
    c.pack.ensures.parcel

pub returns-in-Ok-Fault-clause-finds : goal.returns-in-Ok-Fault-clause-finds
returns-in-Ok-Fault-clause-finds c m known =
    no_values (found_listed m c.args.clock c.args.frame.0 c.args.state.now.held (list_view c.args.codes.now) c.args.allowance c.eval_list.new.state.held c.eval_list.result (listed.Fault c.in-Ok-Fault.kind c.in-Ok-Fault.at) (c.in-Ok-Fault.is ∙ ap (λ (x : Listed). Ok x) c.in-Ok-Fault.field-0-is) (c.eval_list.ensures.finds m known))

pub returns-in-Ok-Spent-clause-finds : goal.returns-in-Ok-Spent-clause-finds
returns-in-Ok-Spent-clause-finds c m known =
    too_much (found_listed m c.args.clock c.args.frame.0 c.args.state.now.held (list_view c.args.codes.now) c.args.allowance c.eval_list.new.state.held c.eval_list.result listed.Spent (c.in-Ok-Spent.is ∙ ap (λ (x : Listed). Ok x) c.in-Ok-Spent.field-0-is) (c.eval_list.ensures.finds m known))
