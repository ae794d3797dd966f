use Rattle.pz_state.proofs.Keeping.{undoes}
use Rattle.pz_state.proofs.state.State.undo_to.Goals as goal

pub invariant_of-self : goal.invariant_of-self
invariant_of-self c = (undoes c.self.inside c.self.view_is c.self.invariant c.args.point c.requires c.undo_last.new.contents c.undo_last.new.entries.items c.close_mark.new.self c.undo_last.ensures.undone c.undo_last.ensures.ready c.undo_last.ensures.fewer c.close_mark.ensures.entries c.close_mark.ensures.places).kept

pub returns : goal.returns
returns c = (undoes c.self.inside c.self.view_is c.self.invariant c.args.point c.requires c.undo_last.new.contents c.undo_last.new.entries.items c.close_mark.new.self c.undo_last.ensures.undone c.undo_last.ensures.ready c.undo_last.ensures.fewer c.close_mark.ensures.entries c.close_mark.ensures.places).is
