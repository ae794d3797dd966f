use Rattle.std.proofs.Common.{refl}
use Rattle.pz_state.specs.States.{StateView, set_local}
use Rattle.pz_state.proofs.ObjectLists.{same_room}
use Rattle.pz_state.proofs.SelfContained.{contained-set_local}
use Rattle.pz_state.specs.declared.spots.Spot.TheVariants as spot
use Rattle.pz_state.proofs.Noted.{alike_local}
use Rattle.pz_state.proofs.Keeping.{stays, changes_by, assigns, none_after_latest, within_held}
use Rattle.pz_state.proofs.state.State.set_local.Goals as goal

pub prepare-requires-clause-latest : goal.prepare-requires-clause-latest
prepare-requires-clause-latest c = none_after_latest c.self.inside c.self.invariant

pub invariant_of-self : goal.invariant_of-self
invariant_of-self c = (stays c.self.inside c.self.view_is c.self.invariant c.self.inside.contents c.prepare.new.self refl (same_room _) c.prepare.ensures.entries c.prepare.ensures.places).kept

pub invariant_of-self-2 : goal.invariant_of-self-2
invariant_of-self-2 c = (changes_by c.self.inside c.self.view_is c.self.invariant c.set_local-change.new.self c.set_local-change.result c.in_ok-noting.noting c.note.new.self (λ (z : StateView). set_local z c.args.frame.0 c.args.slot c.args.value) c.set_local-change.ensures.state c.set_local-change.ensures.back
    (assigns c.self.inside c.self.invariant c.set_local-change.new.self c.set_local-change.result c.set_local-change.ensures.back (spot.Local c.args.frame.0 c.args.slot) (set_local c.self.inside.contents.state c.args.frame.0 c.args.slot c.args.value) c.set_local-change.ensures.state (alike_local c.self.inside.contents.state c.args.frame.0 c.args.slot c.args.value) c.in_ok-noting.noting c.prepare.new.self c.note.new.self c.in_ok-noting.ensures.spared c.in_ok-noting.ensures.marked c.prepare.ensures.entries c.prepare.ensures.places c.note.ensures.entries c.note.ensures.places)
    (contained-set_local c.self.inside.contents.state c.args.frame.0 c.args.slot c.args.value c.self.invariant.contained (within_held c.self.inside c.self.view_is c.args.value c.requires.within)) (c.self.invariant.limit)).kept

pub returns-clause-ok : goal.returns-clause-ok
returns-clause-ok c = (changes_by c.self.inside c.self.view_is c.self.invariant c.set_local-change.new.self c.set_local-change.result c.in_ok-noting.noting c.note.new.self (λ (z : StateView). set_local z c.args.frame.0 c.args.slot c.args.value) c.set_local-change.ensures.state c.set_local-change.ensures.back
    (assigns c.self.inside c.self.invariant c.set_local-change.new.self c.set_local-change.result c.set_local-change.ensures.back (spot.Local c.args.frame.0 c.args.slot) (set_local c.self.inside.contents.state c.args.frame.0 c.args.slot c.args.value) c.set_local-change.ensures.state (alike_local c.self.inside.contents.state c.args.frame.0 c.args.slot c.args.value) c.in_ok-noting.noting c.prepare.new.self c.note.new.self c.in_ok-noting.ensures.spared c.in_ok-noting.ensures.marked c.prepare.ensures.entries c.prepare.ensures.places c.note.ensures.entries c.note.ensures.places)
    (contained-set_local c.self.inside.contents.state c.args.frame.0 c.args.slot c.args.value c.self.invariant.contained (within_held c.self.inside c.self.view_is c.args.value c.requires.within)) (c.self.invariant.limit)).is
