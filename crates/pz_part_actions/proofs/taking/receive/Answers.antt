use Rattle.std.proofs.Common.{◌+◌, length, refl, arith}
use Rattle.pz_classes_code.specs.CodeView.{part_view}
use Rattle.pz_part_queries.specs.Standpoints.{seen_from}
use Rattle.pz_part_actions.proofs.Messages.{parcel_taken, parcel_refused, has_room, is_full}
use Rattle.pz_part_actions.proofs.taking.receive.Goals as goal

pub returns-in-Ok-clause-takes : goal.returns-in-Ok-clause-takes
returns-in-Ok-clause-takes c = λ m class port name condition known.
    parcel_taken (seen_from m c.args.here.now class c.args.state.now.held) c.args.frame.0 c.args.parcel.now c.args.pos port name c.args.into.now condition (part_view c.args.block.now)
    c.bind.result c.args.state.now c.unpack.new.state c.variables-into.result.now c.in-Ok.values.items c.bind.new.state.held refl
    (has_room c.unpack.result c.in-Ok.values (length c.args.state.now.held.objects + length c.args.parcel.now.objects) c.in-Ok.is c.unpack.ensures.full.1)
    c.in-Ok.ensures.ok c.variables-into.ensures c.in-Ok.ensures.values (c.bind.ensures.runs m class known)

pub returns-in-Err-StoreFull-clause-takes : goal.returns-in-Err-StoreFull-clause-takes
returns-in-Err-StoreFull-clause-takes c = λ m class port name condition known.
    parcel_refused (seen_from m c.args.here.now class c.args.state.now.held) c.args.frame.0 c.args.parcel.now c.args.pos port name c.args.into.now condition (part_view c.args.block.now)
    (λ fits. let over = c.unpack.ensures.full.0 (is_full c.unpack.result c.in-Err-StoreFull.field-0 c.in-Err-StoreFull.is c.in-Err-StoreFull.field-0-is) in omega (arith, over, fits))
