use Rattle.std.proofs.Common.{◌+◌, List, length, sym, ap, subst, ◌∙◌, arith}
use Rattle.std.specs.Prelude.{All}
use Rattle.pz_classes_code.specs.pz_value.declared.value.Value.{Value}
use Rattle.pz_copy.specs.declared.unpacking.UnpackError.TheVariants.{StoreFull}
use Rattle.pz_copy.specs.Unpacking.{unpacked, unpacked_values}
use Rattle.pz_copy.specs.pz_state.Marks.{Seen}
use Rattle.pz_copy.specs.pz_state.References.{RefersWithin}
use Rattle.pz_copy.specs.pz_state.States.{object_limit}
use Rattle.pz_eval.proofs.Parceling.{bound_changed, on_ok_map, fits_of, not_full_of, same_error}
use Rattle.pz_eval_machine.proofs.Unwinding.{on_ok}
use Rattle.pz_eval.proofs.conditions.bind.Goals as goal

pub bind_values-requires : goal.bind_values-requires
bind_values-requires c = c.in-Ok.ensures.within

pub returns-in-Ok-clause-ok : goal.returns-in-Ok-clause-ok
returns-in-Ok-clause-ok c =
    on_ok_map c.bind_values.result (bound_changed c.args.frame.0 c.args.into.now c.args.state.now c.unpack.new.state c.bind_values.new.state (unpacked c.args.state.now.held c.args.parcel.now) c.in-Ok.values.items (unpacked_values c.args.state.now.held c.args.parcel.now)
    c.in-Ok.ensures.ok c.in-Ok.ensures.values) c.bind_values.ensures.ok

pub returns-in-Ok-clause-fits : goal.returns-in-Ok-clause-fits
returns-in-Ok-clause-fits c = on_ok c.bind_values.result (fits_of c.unpack.result c.in-Ok.values StoreFull (length c.args.state.now.held.objects + length c.args.parcel.now.objects) object_limit c.in-Ok.is c.unpack.ensures.full.1)

pub returns-in-Ok-clause-full : goal.returns-in-Ok-clause-full
returns-in-Ok-clause-full c e = absurd (not_full_of c.bind_values.result c.bind_values.ensures.err e)

pub returns-in-Ok-clause-marks : goal.returns-in-Ok-clause-marks
returns-in-Ok-clause-marks c = c.bind_values.ensures.marks ∙ ap (λ (t : Seen). t.marks) c.in-Ok.ensures.ok

pub returns-in-Err-clause-full : goal.returns-in-Err-clause-full
returns-in-Err-clause-full c e fits =
    let over = c.unpack.ensures.full.0 (same_error c.unpack.result c.in-Err.error StoreFull c.in-Err.is e) in
    omega (arith, over, fits)

pub returns-in-Err-clause-marks : goal.returns-in-Err-clause-marks
returns-in-Err-clause-marks c = ap (λ (t : Seen). t.marks) c.in-Err.ensures.err
