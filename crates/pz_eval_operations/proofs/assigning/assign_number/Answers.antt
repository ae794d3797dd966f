use Rattle.std.proofs.Common.{◌≡◌, ℤ, ◌-◌, Some, refl, sym, subst, w64, arith}
use Rattle.std.specs.Prelude.{FitsSigned}
use Rattle.std.specs.Int.{cast_unsigned, cast_signed}
use Rattle.std.proofs.Common.{rules}
use Rattle.std.proofs.lemmas.Int.{to_z-of_z}
use Rattle.pz_classes_code.specs.pz_value.declared.value.Value.TheVariants.{Int}
use Rattle.pz_classes_code.specs.CodeView.{view}
use Rattle.pz_eval_operations.specs.devices.AtOnce.{Attempt}
use Rattle.pz_eval_operations.specs.devices.Sites.{place_of, memory_of, memory_at}
use Rattle.pz_eval_operations.proofs.Worth.{assigned_found}
use Rattle.pz_eval_operations.proofs.assigning.assign_number.Goals as goal

pub returns-clause-assigned : goal.returns-clause-assigned
returns-clause-assigned c =
    let fits : FitsSigned w64 c.in-Some.number = search rules in
    assigned_found (place_of c.args.activation.now.site) (memory_of c.args.activation.now c.args.state.now.held) (memory_at c.args.activation.now.site c.write.new.state.held c.write.new.locals.items)
    c.args.code.now c.in-Assign.value c.get.result.now c.in-Assign.slot (Int (cast_signed w64 (cast_unsigned w64 c.in-Some.number))) (Int (cast_signed w64 (cast_unsigned w64 c.in-Some.number))) c.args.depth (c.args.depth - 1) c.args.units.now (c.args.units.now - 1) c.number_at_once.new.units
    c.in-Assign.is c.get.ensures (omega (arith, c.if-depth-eq0.false)) (omega (arith, c.if-units-eq0.false)) refl c.in_ok-write.ensures.memory
    (subst (λ (z : ℤ). Attempt (c.args.depth - 1) (place_of c.args.activation.now.site) (memory_of c.args.activation.now c.args.state.now.held) (view c.get.result.now) (c.args.units.now - 1) c.number_at_once.new.units (Some (Int z))) (sym (to_z-of_z w64 c.in-Some.number fits)) c.in-Some.ensures)
