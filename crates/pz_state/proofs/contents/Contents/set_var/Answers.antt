use Rattle.std.proofs.Common.{◌<◌, List, length, slice_set, ap, sym, subst, ◌∙◌}
use Rattle.std.proofs.lemmas.List.{length-set}
use Rattle.pz_value.specs.declared.value.Value.{Value}
use Rattle.pz_state.specs.devices.StoredStates.{StoredState, IsWider, stored_state}
use Rattle.pz_state.proofs.Reading.{set_back}
use Rattle.pz_state.proofs.ObjectLists.{objects_of, same_room}
use Rattle.pz_state.proofs.contents.Contents.set_var.Goals as goal

pub returns-clause-back : goal.returns-clause-back
returns-clause-back c = record {
  back = ap (λ (vars : List Value). record { vars = vars; frames = c.self.inside.frames.frames; objects = objects_of c.self.inside.objects.items })
      (ap (λ (vars : List Value). slice_set vars c.args.slot c.replace-old.result) c.replace-old.ensures.new ∙ set_back c.self.inside.vars.items c.args.slot c.replace-old.result c.args.value c.replace-old.ensures.old)
      ∙ ap (λ (s : StoredState). s.state) c.self.view_is;
  ready = rw (c.replace-old.ensures.new, length-set) (subst (λ (s : StoredState). c.args.slot < length s.state.vars) (sym c.self.view_is) c.requires);
  room = subst (λ (s : StoredState). IsWider s.room (stored_state c.self.inside).room) c.self.view_is (same_room _);
}
