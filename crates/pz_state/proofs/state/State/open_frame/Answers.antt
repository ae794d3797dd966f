use Rattle.std.proofs.Common.{refl}
use Rattle.pz_state.specs.States.{StateView, opened}
use Rattle.pz_state.proofs.ObjectLists.{same_room}
use Rattle.pz_state.proofs.SelfContained.{contained-opened}
use Rattle.pz_state.proofs.Keeping.{stays, changes_by, goes_on}
use Rattle.pz_state.specs.declared.journal.Change.TheVariants as change
use Rattle.pz_state.proofs.state.State.open_frame.Goals as goal

pub invariant_of-self : goal.invariant_of-self
invariant_of-self c = (stays c.self.inside c.self.view_is c.self.invariant c.self.inside.contents c.reserve.new.self refl (same_room _) c.reserve.ensures.entries c.reserve.ensures.places).kept

pub invariant_of-self-in_err-frame : goal.invariant_of-self-in_err-frame
invariant_of-self-in_err-frame c = (stays c.self.inside c.self.view_is c.self.invariant c.open_frame.new.self c.reserve.new.self c.in_err-frame.ensures.err c.open_frame.ensures.room c.reserve.ensures.entries c.reserve.ensures.places).kept

pub invariant_of-self-2 : goal.invariant_of-self-2
invariant_of-self-2 c = (changes_by c.self.inside c.self.view_is c.self.invariant c.open_frame.new.self (change.Opened c.in_ok-frame.frame) c.in_ok-noting.noting c.note.new.self (λ (z : StateView). opened z c.in_ok-frame.frame c.args.locals) c.in_ok-frame.ensures.state c.in_ok-frame.ensures.back
    (goes_on c.self.inside c.self.invariant c.open_frame.new.self (change.Opened c.in_ok-frame.frame) c.in_ok-noting.noting c.reserve.new.self c.note.new.self c.in_ok-noting.ensures.spared c.in_ok-noting.ensures.marked c.reserve.ensures.entries c.reserve.ensures.places c.note.ensures.entries c.note.ensures.places)
    (contained-opened c.self.inside.contents.state c.in_ok-frame.frame c.args.locals c.self.invariant.contained) (c.self.invariant.limit)).kept

pub returns-clause-ok : goal.returns-clause-ok
returns-clause-ok c = (changes_by c.self.inside c.self.view_is c.self.invariant c.open_frame.new.self (change.Opened c.in_ok-frame.frame) c.in_ok-noting.noting c.note.new.self (λ (z : StateView). opened z c.in_ok-frame.frame c.args.locals) c.in_ok-frame.ensures.state c.in_ok-frame.ensures.back
    (goes_on c.self.inside c.self.invariant c.open_frame.new.self (change.Opened c.in_ok-frame.frame) c.in_ok-noting.noting c.reserve.new.self c.note.new.self c.in_ok-noting.ensures.spared c.in_ok-noting.ensures.marked c.reserve.ensures.entries c.reserve.ensures.places c.note.ensures.entries c.note.ensures.places)
    (contained-opened c.self.inside.contents.state c.in_ok-frame.frame c.args.locals c.self.invariant.contained) (c.self.invariant.limit)).is
