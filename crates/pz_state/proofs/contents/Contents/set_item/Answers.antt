use Rattle.std.proofs.Common.{◌<◌, length, slice_set, sym, subst, arith}
use Rattle.std.proofs.lemmas.List.{length-set}
use Rattle.pz_state.specs.States.{no_object}
use Rattle.pz_state.specs.Objects.{ObjectView}
use Rattle.pz_state.proofs.Reading.{set_back}
use Rattle.pz_state.proofs.ObjectLists.{object_seen, item_seen, changes_object, widens, new_there, object_back}
use Rattle.pz_state.proofs.contents.Contents.set_item.Goals as goal

pub returns-clause-state : goal.returns-clause-state
returns-clause-state c = changes_object c.self.inside c.self.view_is c.args.r c.index_mut-object.result.now c.replace-old.new.self (λ items. slice_set items c.args.place c.args.value)
    (item_seen c.self.inside c.self.view_is c.args.r c.args.place c.requires) c.index_mut-object.ensures.value c.replace-old.ensures.new

pub returns-clause-back : goal.returns-clause-back
returns-clause-back c = let o = c.index_mut-object.result.now in let new = c.replace-old.new.self in let e = c.index_mut-object.ensures.value in
    let lt = item_seen c.self.inside c.self.view_is c.args.r c.args.place c.requires in
    let there = object_seen c.self.inside c.self.view_is c.args.r o no_object lt e in
    let old_place : c.args.place < length o.object.items = subst (λ (x : ObjectView). c.args.place < length x.items) there c.requires in
    let new_place : c.args.place < length new.object.items = rw (c.replace-old.ensures.new, length-set) old_place in
    record {
      back = object_back c.self.inside c.self.view_is c.args.r o new (λ items. slice_set items c.args.place c.args.value) (λ items. slice_set items c.args.place c.replace-old.result) lt e c.replace-old.ensures.new
          (set_back o.object.items c.args.place c.replace-old.result c.args.value c.replace-old.ensures.old);
      ready = subst (λ (x : ObjectView). c.args.place < length x.items) (sym (new_there c.self.inside c.args.r new no_object lt)) new_place;
      room = widens c.self.inside c.self.view_is c.args.r o new e (omega (arith, c.replace-old.ensures.room));
    }
