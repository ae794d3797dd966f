use Rattle.std.proofs.Common.{refl}
use Rattle.pz_state.proofs.ObjectLists.{same_room}
use Rattle.pz_state.proofs.Keeping.{stays, marks}
use Rattle.pz_state.proofs.state.State.mark.Goals as goal

pub invariant_of-self : goal.invariant_of-self
invariant_of-self c = (stays c.self.inside c.self.view_is c.self.invariant c.self.inside.contents c.mark.new.self refl (same_room _) c.in_err-place.ensures.err_entries c.in_err-place.ensures.err_places).kept

pub invariant_of-self-2 : goal.invariant_of-self-2
invariant_of-self-2 c = (marks c.self.inside c.self.view_is c.self.invariant c.mark.new.self c.in_ok-place.place c.in_ok-place.ensures.place c.in_ok-place.ensures.entries c.in_ok-place.ensures.places).kept

pub returns-clause-ok : goal.returns-clause-ok
returns-clause-ok c = (marks c.self.inside c.self.view_is c.self.invariant c.mark.new.self c.in_ok-place.place c.in_ok-place.ensures.place c.in_ok-place.ensures.entries c.in_ok-place.ensures.places).is
