use Rattle.std.proofs.Common.{get_or, arith}
use Rattle.pz_classes.specs.CheckedView.{checked_model}
use Rattle.pz_bind_levels.specs.declared.expansion.Wire.{Wire}
use Rattle.pz_bind_rules.specs.Names as spec_names
use Rattle.pz_bind_rules.specs.Wires.{wires}
use Rattle.pz_bind.proofs.SiteSteps.{wire_place, wire_within, wire_named, mapped_step}
use Rattle.pz_bind.proofs.nodes.wire_names_of.Goals as goal

abbrev nothing : Wire
nothing = record { level = 0; channel = 0 }

pub wire_name-requires : goal.wire_name-requires
wire_name-requires c =
    let m = checked_model c.args.checked.now in
    let w = wire_place m c.args.wires.now nothing c.loop-wire.wire-index c.requires.expanded c.loop-wire-test.true in
    wire_within m c.args.sites.now (get_or c.args.wires.now c.loop-wire.wire-index nothing) w.0 c.requires.known w.2

pub loop-wire-preserved : goal.loop-wire-preserved
loop-wire-preserved c =
    let m = checked_model c.args.checked.now in
    let w = wire_place m c.args.wires.now nothing c.loop-wire.wire-index c.requires.expanded c.loop-wire-test.true in
    mapped_step (spec_names.wire_name m) (wires m) w.0 c.loop-wire.wire-index _ c.loop-wire.names _ _ w.1 (omega arith) c.in_ok-push.ensures.ok
    (wire_named m c.args.sites.now (get_or c.args.wires.now c.loop-wire.wire-index nothing) w.0 _ c.requires.known w.2 c.in_ok-wire_name.ensures) c.loop-wire.invariant
