use Rattle.std.proofs.Common.{refl}
use Rattle.std.proofs.Math.Logic.{∥∥₁_elim}
use Rattle.std.proofs.Math.Bridge.{le_prop}
use Rattle.pz_part_actions.proofs.Methods.{is_method, not_missing, method_belongs, not_data}
use Rattle.pz_part_actions.proofs.calling.find_method.Goals as goal

pub process_method-requires : goal.process_method-requires
process_method-requires c = ∥∥₁_elim c.requires le_prop (λ can. can.belongs)

pub unreachable-requires : goal.unreachable-requires
unreachable-requires c = ∥∥₁_elim c.requires (λ x y. absurd x) (λ can.
    not_missing c.args.classes.now c.args.class c.args.name.now c.args.inputs c.args.outputs can c.process_method.result c.in_default.is c.process_method.ensures.method)

pub body-requires : goal.body-requires
body-requires c = ∥∥₁_elim c.requires le_prop (λ can.
    method_belongs c.args.classes.now c.args.class c.args.name.now c.args.inputs c.args.outputs can c.in-Some.method c.in-Some.ensures.belongs)

pub unreachable-requires-in-Data : goal.unreachable-requires-in-Data
unreachable-requires-in-Data c = ∥∥₁_elim c.requires (λ x y. absurd x) (λ can.
    not_data c.args.classes.now c.args.class c.args.name.now c.args.inputs c.args.outputs can c.in-Some.method c.body.result.now c.in-Data.locals c.in-Data.code c.in-Data.is c.in-Some.ensures.body c.body.ensures)

pub returns : goal.returns
returns c =
    is_method c.args.classes.now c.args.class c.args.name.now c.args.inputs c.args.outputs c.trees_are_sets.ensures.bodies c.in-Some.method c.body.result.now c.in-Process.locals c.in-Process.stmts c.in-Process.stmts
    c.in-Process.is refl c.in-Some.ensures.body c.body.ensures
