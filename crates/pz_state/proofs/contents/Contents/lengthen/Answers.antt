use Rattle.std.proofs.Common.{◌++◌, length, reverse, ap, arith}
use Rattle.pz_state.specs.States.{no_object}
use Rattle.pz_state.specs.Objects.{ObjectView}
use Rattle.pz_state.proofs.ObjectLists.{object_seen, room_seen, place_seen, changes_object, widens}
use Rattle.pz_state.proofs.contents.Contents.lengthen.Goals as goal

pub restore-requires : goal.restore-requires
restore-requires c = let lt = place_seen c.self.inside c.self.view_is c.args.r c.requires.there in let o = c.index_mut-object.result.now in
    let a = ap (λ (x : ObjectView). length x.items) (object_seen c.self.inside c.self.view_is c.args.r o no_object lt c.index_mut-object.ensures.value) in
    let b = room_seen c.self.inside c.self.view_is c.args.r o lt c.index_mut-object.ensures.value in
    let fits = c.requires.room in omega arith

pub returns-clause-state : goal.returns-clause-state
returns-clause-state c = changes_object c.self.inside c.self.view_is c.args.r c.index_mut-object.result.now c.restore.new.self (λ items. items ++ reverse c.args.cut.items)
    (place_seen c.self.inside c.self.view_is c.args.r c.requires.there) c.index_mut-object.ensures.value c.restore.ensures.object

pub returns-clause-room : goal.returns-clause-room
returns-clause-room c = widens c.self.inside c.self.view_is c.args.r c.index_mut-object.result.now c.restore.new.self c.index_mut-object.ensures.value (omega (arith, c.restore.ensures.room))
