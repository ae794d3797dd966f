use Rattle.std.proofs.Common.{◌≤◌, subst, arith}
use Rattle.pz_state.specs.devices.StoredStates.{StoredState}
use Rattle.pz_state.proofs.ObjectLists.{drops_last}
use Rattle.pz_state.proofs.contents.Contents.unmake.Goals as goal

pub returns-clause-state : goal.returns-clause-state
returns-clause-state c = (drops_last c.self.inside c.self.view_is _ c.self.inside.objects.ok.0 c.pop-object.new.self.items c.pop-object.ensures.rest).0

pub returns-clause-room : goal.returns-clause-room
returns-clause-room c = record {
  frames = subst (λ (s : StoredState). s.room.frames ≤ c.self.inside.frames.room) c.self.view_is (omega arith);
  items = (drops_last c.self.inside c.self.view_is _ c.self.inside.objects.ok.0 c.pop-object.new.self.items c.pop-object.ensures.rest).1;
}
