use Rattle.std.proofs.Common.{ap}
use Rattle.pz_state.specs.States.{StateView}
use Rattle.pz_state.specs.Marks.{changed}
use Rattle.pz_copy.proofs.Objects.{fill_start}
use Rattle.pz_copy.proofs.Steps.{item_there, item_within, item_step}
use Rattle.pz_copy.proofs.unpacking.fill_object.Goals as goal

pub loop-place-init : goal.loop-place-init
loop-place-init c = ap (λ (h : StateView). changed c.args.state.now h) (fill_start c.args.state.now.held c.args.r c.args.count c.args.items.now c.requires.blank)

pub set_item-requires-clause-there : goal.set_item-requires-clause-there
set_item-requires-clause-there c = item_there c.args.state.now c.loop-place.state c.args.r c.args.count c.args.items.now c.loop-place.place c.requires.there c.loop-place-test.true c.loop-place.invariant

pub set_item-requires-clause-within : goal.set_item-requires-clause-within
set_item-requires-clause-within c = item_within c.args.state.now c.loop-place.state c.args.r c.args.count c.args.items.now c.loop-place.place c.index-items-place.result c.in_ok-value.value c.loop-place-test.true c.index-items-place.is c.requires.within c.loop-place.invariant c.in_ok-value.ensures

pub loop-place-preserved : goal.loop-place-preserved
loop-place-preserved c = item_step c.args.state.now c.loop-place.state c.set_item.new.self c.args.r c.args.count c.args.items.now c.loop-place.place c.index-items-place.result c.in_ok-value.value c.loop-place-test.true c.index-items-place.is c.in_ok-value.ensures c.loop-place.invariant c.in_ok-set_item.ensures.ok
