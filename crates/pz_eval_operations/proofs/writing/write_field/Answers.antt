use Rattle.std.proofs.Common.{◌≡◌, ap, ◌∙◌, List, length, arith}
use Rattle.pz_classes_code.specs.pz_value.declared.value.Value.{Value}
use Rattle.pz_state.specs.Objects.{ObjectView}
use Rattle.pz_state.specs.States.{StateView, object}
use Rattle.pz_state.specs.Marks.{changed}
use Rattle.pz_eval_operations.proofs.Absent.{no_field, no_field_past}
use Rattle.pz_eval_operations.proofs.writing.write_field.Goals as goal

pub returns-then-r-objects-clause-ok : goal.returns-then-r-objects-clause-ok
returns-then-r-objects-clause-ok c =
    ap (λ (h : StateView). changed c.args.state.now h)
    (no_field_past c.args.state.now.held c.args.r c.args.place c.args.value (omega (arith, c.objects.ensures.count, c.if-r-objects.true)))

pub returns-then-place-items-clause-ok : goal.returns-then-place-items-clause-ok
returns-then-place-items-clause-ok c =
    let same : length c.items.result.now ≡ length (object c.args.state.now.held c.args.r).items =
    ap (λ (vs : List Value). length vs) (c.items.ensures ∙ ap (λ (o : ObjectView). o.items) c.object.ensures.value) in
    ap (λ (h : StateView). changed c.args.state.now h)
    (no_field c.args.state.now.held c.args.r c.args.place c.args.value (omega (arith, same, c.if-place-items.true)))
