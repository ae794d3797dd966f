use Rattle.std.proofs.Common.{◌≡◌, refl, ◌∙◌, ap, ◌+◌, ◌≤◌, List, length, arith}
use Rattle.std.proofs.lemmas.List.{length_push, nil_from_length}
use Rattle.pz_bind_levels.specs.declared.walk.Open.{Open}
use Rattle.pz_bind_levels.specs.declared.walk.Walk.{Walk}
use Rattle.pz_bind_levels.specs.Places.{spots}
use Rattle.pz_bind_levels.specs.devices.Walking.{layouts_of}
use Rattle.pz_bind_levels.proofs.Walked.{stepped, few, nearer, ended}
use Rattle.pz_bind_levels.proofs.walk.expand.Goals as goal

pub loop-current-preserved : goal.loop-current-preserved
loop-current-preserved c =
    let before = c.loop-current.walk in
    let walk = c.loop-current.invariant.walk in
    let popped : Walk = record { levels = before.levels; processes = before.processes; wires = before.wires; path = c.pop.new.self } in
    stepped (layouts_of c.args.plans.now) c.args.system c.requires c.loop-current.invariant.visited c.loop-current.invariant.rest before popped c.step.new.self c.in-Some.current walk
    (record { levels = walk.kept.levels; processes = walk.kept.processes; wires = walk.kept.wires; inwards = walk.kept.inwards }) c.in-Some.ensures.items c.in_ok-step.ensures

pub loop-current-smaller : goal.loop-current-smaller
loop-current-smaller c =
    let before = c.loop-current.walk in
    let popped : Walk = record { levels = before.levels; processes = before.processes; wires = before.wires; path = c.pop.new.self } in
    let most : length c.step.new.self.levels + length c.step.new.self.processes ≤ length (spots (layouts_of c.args.plans.now) c.args.system) = few (layouts_of c.args.plans.now) c.args.system c.requires c.step.new.self (loop-current-preserved c) in
    let one : length before.path.items ≡ length popped.path.items + 1 = ap (λ (xs : List Open). length xs) c.in-Some.ensures.items ∙ length_push popped.path.items c.in-Some.current in
    rw one (nearer (layouts_of c.args.plans.now) c.in-Some.current popped c.step.new.self (length (spots (layouts_of c.args.plans.now) c.args.system)) most c.in_ok-step.ensures)

pub returns : goal.returns
returns c = ended (layouts_of c.args.plans.now) c.args.system c.requires c.loop-current.walk _ c.loop-current.invariant (nil_from_length c.loop-current.walk.path.items (omega (arith, c.in_default.ensures.cases))) refl refl refl
