use Rattle.std.proofs.Common.{refl}
use Rattle.pz_state.specs.States.{StateView, closed}
use Rattle.pz_state.proofs.ObjectLists.{same_room}
use Rattle.pz_state.proofs.SelfContained.{contained-closed}
use Rattle.pz_state.proofs.Keeping.{stays, changes_by, goes_on}
use Rattle.pz_state.proofs.state.State.close_frame.Goals as goal

pub invariant_of-self : goal.invariant_of-self
invariant_of-self c = (stays c.self.inside c.self.view_is c.self.invariant c.self.inside.contents c.reserve.new.self refl (same_room _) c.reserve.ensures.entries c.reserve.ensures.places).kept

pub invariant_of-self-2 : goal.invariant_of-self-2
invariant_of-self-2 c = (changes_by c.self.inside c.self.view_is c.self.invariant c.close_frame-change.new.self c.close_frame-change.result c.in_ok-noting.noting c.note.new.self (λ (z : StateView). closed z c.args.frame.0) c.close_frame-change.ensures.state c.close_frame-change.ensures.back
    (goes_on c.self.inside c.self.invariant c.close_frame-change.new.self c.close_frame-change.result c.in_ok-noting.noting c.reserve.new.self c.note.new.self c.in_ok-noting.ensures.spared c.in_ok-noting.ensures.marked c.reserve.ensures.entries c.reserve.ensures.places c.note.ensures.entries c.note.ensures.places)
    (contained-closed c.self.inside.contents.state c.args.frame.0 c.self.invariant.contained) (c.self.invariant.limit)).kept

pub returns-clause-ok : goal.returns-clause-ok
returns-clause-ok c = (changes_by c.self.inside c.self.view_is c.self.invariant c.close_frame-change.new.self c.close_frame-change.result c.in_ok-noting.noting c.note.new.self (λ (z : StateView). closed z c.args.frame.0) c.close_frame-change.ensures.state c.close_frame-change.ensures.back
    (goes_on c.self.inside c.self.invariant c.close_frame-change.new.self c.close_frame-change.result c.in_ok-noting.noting c.reserve.new.self c.note.new.self c.in_ok-noting.ensures.spared c.in_ok-noting.ensures.marked c.reserve.ensures.entries c.reserve.ensures.places c.note.ensures.entries c.note.ensures.places)
    (contained-closed c.self.inside.contents.state c.args.frame.0 c.self.invariant.contained) (c.self.invariant.limit)).is
