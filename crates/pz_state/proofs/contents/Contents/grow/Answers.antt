use Rattle.std.proofs.Common.{◌≤◌, ◌-◌, ◌++◌, List, length, take, ap, subst, ◌∙◌}
use Rattle.pz_value.specs.declared.value.Value.{Value}
use Rattle.pz_state.specs.States.{no_object, nils, fitted}
use Rattle.pz_state.specs.Objects.{ObjectView}
use Rattle.pz_state.proofs.Reading.{take-whole, fitted-grown}
use Rattle.pz_state.proofs.ObjectLists.{at_error, object_seen, place_seen, changes_object, keeps_object, widens, still_there, object_back}
use Rattle.pz_state.proofs.contents.Contents.grow.Goals as goal

pub returns-in_err-grow-clause-err : goal.returns-in_err-grow-clause-err
returns-in_err-grow-clause-err c = at_error c.from_residual.result (keeps_object c.self.inside c.self.view_is c.args.r c.index_mut-object.result.now c.grow.new.self c.index_mut-object.ensures.value c.in_err-grow.ensures.err)

pub returns-in_err-grow-clause-room : goal.returns-in_err-grow-clause-room
returns-in_err-grow-clause-room c = widens c.self.inside c.self.view_is c.args.r c.index_mut-object.result.now c.grow.new.self c.index_mut-object.ensures.value c.grow.ensures.room

pub returns-clause-state : goal.returns-clause-state
returns-clause-state c = let o = c.index_mut-object.result.now in let lt = place_seen c.self.inside c.self.view_is c.args.r c.requires.there in
    let few : length o.object.items ≤ c.args.count = subst (λ (x : ObjectView). length x.items ≤ c.args.count) (object_seen c.self.inside c.self.view_is c.args.r o no_object lt c.index_mut-object.ensures.value) c.requires.grows in
    changes_object c.self.inside c.self.view_is c.args.r o c.grow.new.self (fitted c.args.count) lt c.index_mut-object.ensures.value
    (c.in_ok-grow.ensures.ok ∙ ap (λ (items : List Value). record { class = o.object.class; items = items }) (fitted-grown c.args.count o.object.items few))

pub returns-clause-back : goal.returns-clause-back
returns-clause-back c = let o = c.index_mut-object.result.now in let lt = place_seen c.self.inside c.self.view_is c.args.r c.requires.there in let more = nils (c.args.count - length o.object.items) in record {
  back = object_back c.self.inside c.self.view_is c.args.r o c.grow.new.self (λ items. items ++ nils (c.args.count - length o.object.items)) (take (length c.items-before.result.now)) lt c.index_mut-object.ensures.value c.in_ok-grow.ensures.ok
      (ap (λ (items : List Value). take (length items) (o.object.items ++ more)) c.items-before.ensures ∙ take-whole o.object.items more);
  ready = still_there c.self.inside c.args.r c.grow.new.self lt;
  room = widens c.self.inside c.self.view_is c.args.r o c.grow.new.self c.index_mut-object.ensures.value c.grow.ensures.room;
}

pub returns-clause-room : goal.returns-clause-room
returns-clause-room c = widens c.self.inside c.self.view_is c.args.r c.index_mut-object.result.now c.grow.new.self c.index_mut-object.ensures.value c.grow.ensures.room
