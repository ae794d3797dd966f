use Rattle.std.proofs.Common.{ap, ◌∙◌, ◌<◌, ℕ, List, None, Option, length, get_or, arith, add-one, length-take}
use Rattle.std.proofs.Math.Seq.{take-suc}
use Rattle.pz_bind_levels.specs.Layouts.{layout}
use Rattle.pz_bind_levels.specs.devices.Walking.{layouts_of, wire_above}
use Rattle.pz_bind_levels.proofs.OwnWires.{one_more}
use Rattle.pz_bind_levels.proofs.walk.own_wires.Goals as goal

pub loop-channel-preserved : goal.loop-channel-preserved
loop-channel-preserved c =
    let outs : List (Option ℕ) = (layout (layouts_of c.args.plans.now) c.args.class).outer in
    let i = c.loop-channel.channel in
    let below : i < length outs = omega (arith, ap (λ (xs : List (Option ℕ)). length xs) c.outer_of-port-items.ensures) in
    let above = wire_above (layouts_of c.args.plans.now) c.args.levels.now c.args.standing in
    let both = one_more above (length c.args.levels.now) i c.in_ok-wire_of.field-0 outs (get_or outs i None) c.wire_above-above.result c.args.wires.now c.loop-channel.wires c.wire_of.new.wires c.loop-channel.own c.push.new.self
    (rw add-one (take-suc outs i None below)) (omega (arith, length-take i outs)) c.loop-channel.invariant.own c.loop-channel.invariant.new
    (c.wire_above-above.ensures ∙ ap (λ (xs : List (Option ℕ)). above (get_or xs i None)) c.outer_of-port-items.ensures) c.in_ok-wire_of.ensures.is c.in_ok-wire_of.ensures.new c.in_ok-push.ensures.ok in
    record { own = both.0; new = both.1 }
