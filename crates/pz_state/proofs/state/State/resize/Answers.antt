use Rattle.std.proofs.Common.{◌<◌, refl, ◌^◌, rules}
use Rattle.pz_state.specs.States.{StateView, resized}
use Rattle.pz_state.proofs.ObjectLists.{same_room, length-at_object}
use Rattle.pz_state.proofs.SelfContained.{contained-resized}
use Rattle.pz_state.proofs.Keeping.{stays, changes_by, goes_on}
use Rattle.pz_state.proofs.state.State.resize.Goals as goal

pub invariant_of-self : goal.invariant_of-self
invariant_of-self c = (stays c.self.inside c.self.view_is c.self.invariant c.self.inside.contents c.reserve.new.self refl (same_room _) c.reserve.ensures.entries c.reserve.ensures.places).kept

pub invariant_of-self-in_err-change : goal.invariant_of-self-in_err-change
invariant_of-self-in_err-change c = (stays c.self.inside c.self.view_is c.self.invariant c.resize.new.self c.reserve.new.self c.in_err-change.ensures.err c.resize.ensures.room c.reserve.ensures.entries c.reserve.ensures.places).kept

pub invariant_of-self-2 : goal.invariant_of-self-2
invariant_of-self-2 c = (changes_by c.self.inside c.self.view_is c.self.invariant c.resize.new.self c.in_ok-change.change c.in_ok-noting.noting c.note.new.self (λ (z : StateView). resized z c.args.r c.args.items) c.in_ok-change.ensures.state c.in_ok-change.ensures.back
    (goes_on c.self.inside c.self.invariant c.resize.new.self c.in_ok-change.change c.in_ok-noting.noting c.reserve.new.self c.note.new.self c.in_ok-noting.ensures.spared c.in_ok-noting.ensures.marked c.reserve.ensures.entries c.reserve.ensures.places c.note.ensures.entries c.note.ensures.places)
    (contained-resized c.self.inside.contents.state c.args.r c.args.items (let few : c.args.items < 2 ^ 32 = search rules in few) c.self.invariant.contained) (rw length-at_object c.self.invariant.limit)).kept

pub returns-clause-ok : goal.returns-clause-ok
returns-clause-ok c = (changes_by c.self.inside c.self.view_is c.self.invariant c.resize.new.self c.in_ok-change.change c.in_ok-noting.noting c.note.new.self (λ (z : StateView). resized z c.args.r c.args.items) c.in_ok-change.ensures.state c.in_ok-change.ensures.back
    (goes_on c.self.inside c.self.invariant c.resize.new.self c.in_ok-change.change c.in_ok-noting.noting c.reserve.new.self c.note.new.self c.in_ok-noting.ensures.spared c.in_ok-noting.ensures.marked c.reserve.ensures.entries c.reserve.ensures.places c.note.ensures.entries c.note.ensures.places)
    (contained-resized c.self.inside.contents.state c.args.r c.args.items (let few : c.args.items < 2 ^ 32 = search rules in few) c.self.invariant.contained) (rw length-at_object c.self.invariant.limit)).is
