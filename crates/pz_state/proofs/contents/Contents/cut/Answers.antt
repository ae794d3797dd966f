use Rattle.std.proofs.Common.{◌≤◌, ◌++◌, List, length, take, reverse, ap, sym, subst, ◌∙◌, arith}
use Rattle.pz_value.specs.declared.value.Value.{Value}
use Rattle.pz_state.specs.States.{no_object, fitted}
use Rattle.pz_state.specs.Objects.{ObjectView}
use Rattle.pz_state.proofs.Reading.{fitted-cut}
use Rattle.pz_state.proofs.ObjectLists.{at_error, object_seen, place_seen, changes_object, keeps_object, widens, new_there, new_room, still_there, object_back}
use Rattle.pz_state.proofs.contents.Contents.cut.Goals as goal

pub returns-in_err-items-clause-err : goal.returns-in_err-items-clause-err
returns-in_err-items-clause-err c = at_error c.from_residual.result (keeps_object c.self.inside c.self.view_is c.args.r c.index_mut-object.result.now c.cut.new.self c.index_mut-object.ensures.value c.in_err-items.ensures.err)

pub returns-in_err-items-clause-room : goal.returns-in_err-items-clause-room
returns-in_err-items-clause-room c = widens c.self.inside c.self.view_is c.args.r c.index_mut-object.result.now c.cut.new.self c.index_mut-object.ensures.value (omega (arith, c.cut.ensures.room))

pub returns-clause-state : goal.returns-clause-state
returns-clause-state c = let o = c.index_mut-object.result.now in let lt = place_seen c.self.inside c.self.view_is c.args.r c.requires.there in
    let many : c.args.count ≤ length o.object.items = subst (λ (x : ObjectView). c.args.count ≤ length x.items) (object_seen c.self.inside c.self.view_is c.args.r o no_object lt c.index_mut-object.ensures.value) c.requires.cuts in
    changes_object c.self.inside c.self.view_is c.args.r o c.cut.new.self (fitted c.args.count) lt c.index_mut-object.ensures.value
    (c.in_ok-items.ensures.ok ∙ ap (λ (items : List Value). record { class = o.object.class; items = items }) (fitted-cut c.args.count o.object.items many))

pub returns-clause-back : goal.returns-clause-back
returns-clause-back c = let o = c.index_mut-object.result.now in let lt = place_seen c.self.inside c.self.view_is c.args.r c.requires.there in let new = c.cut.new.self in
    let there = new_there c.self.inside c.args.r new no_object lt in let room = new_room c.self.inside c.args.r new lt in let fits = c.in_ok-items.ensures.fits in record {
      back = object_back c.self.inside c.self.view_is c.args.r o new (take c.args.count) (λ items. items ++ reverse c.in_ok-items.items.items) lt c.index_mut-object.ensures.value c.in_ok-items.ensures.ok
          (ap (λ (x : ObjectView). x.items ++ reverse c.in_ok-items.items.items) (sym c.in_ok-items.ensures.ok) ∙ c.in_ok-items.ensures.back);
      ready = (still_there c.self.inside c.args.r new lt, let a = ap (λ (x : ObjectView). length x.items) there in omega arith);
      room = widens c.self.inside c.self.view_is c.args.r o new c.index_mut-object.ensures.value (omega (arith, c.cut.ensures.room));
    }

pub returns-clause-room : goal.returns-clause-room
returns-clause-room c = widens c.self.inside c.self.view_is c.args.r c.index_mut-object.result.now c.cut.new.self c.index_mut-object.ensures.value (omega (arith, c.cut.ensures.room))
