use Rattle.std.proofs.Common.{◌≡◌, ap, map, ◌∙◌, Option, slice_get}
use Rattle.std.specs.Option.{option_and_then}
use Rattle.pz_classes_rules.specs.declared.method_id.Counts.TheVariants.{Data}
use Rattle.pz_classes_rules.specs.declared.method_id.MethodId.{MethodId}
use Rattle.pz_classes_rules.specs.Methods.{Signature}
use Rattle.pz_classes_rules.specs.Bodies.{bodies}
use Rattle.pz_classes.specs.devices.Rows.{row_view, rows}
use Rattle.pz_classes_rules.proofs.MethodBodies.{body_is}
use Rattle.pz_classes.proofs.RowLookups.{found_is}
use Rattle.pz_classes.proofs.Belongs.{method_belongs}
use Rattle.pz_classes.proofs.classes.Classes.method.Goals as goal

pub returns-clause-method : goal.returns-clause-method
returns-clause-method c = λ m are.
    let listed : map row_view c.as_slice.result.now ≡ rows m = rw c.as_slice.ensures are.rows in
    c.find.ensures ∙ found_is m (map row_view c.as_slice.result.now) listed (record { name = c.args.name.now; counts = Data c.args.inputs }) c.args.class.0

pub returns-clause-belongs : goal.returns-clause-belongs
returns-clause-belongs c = λ m are.
    let listed : map row_view c.as_slice.result.now ≡ rows m = rw c.as_slice.ensures are.rows in
    method_belongs m c.args.self.now are (record { name = c.args.name.now; counts = Data c.args.inputs }) c.args.class.0 c.find.result
    (c.find.ensures ∙ found_is m (map row_view c.as_slice.result.now) listed (record { name = c.args.name.now; counts = Data c.args.inputs }) c.args.class.0)

pub returns-clause-body : goal.returns-clause-body
returns-clause-body c = λ m are.
    let listed : map row_view c.as_slice.result.now ≡ rows m = rw c.as_slice.ensures are.rows in
    let s : Signature = record { name = c.args.name.now; counts = Data c.args.inputs } in
    ap (λ (o : Option MethodId). option_and_then (λ (n : MethodId). slice_get (bodies m) n.0) o) (c.find.ensures ∙ found_is m (map row_view c.as_slice.result.now) listed s c.args.class.0)
    ∙ body_is m s c.args.class.0
