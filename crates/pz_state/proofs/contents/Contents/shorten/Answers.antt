use Rattle.std.proofs.Common.{take, arith}
use Rattle.pz_state.proofs.ObjectLists.{place_seen, changes_object, widens}
use Rattle.pz_state.proofs.contents.Contents.shorten.Goals as goal

pub returns-clause-state : goal.returns-clause-state
returns-clause-state c = changes_object c.self.inside c.self.view_is c.args.r c.index_mut-object.result.now c.truncate.new.self (take c.args.count)
    (place_seen c.self.inside c.self.view_is c.args.r c.requires) c.index_mut-object.ensures.value c.truncate.ensures.object

pub returns-clause-room : goal.returns-clause-room
returns-clause-room c = widens c.self.inside c.self.view_is c.args.r c.index_mut-object.result.now c.truncate.new.self c.index_mut-object.ensures.value (omega (arith, c.truncate.ensures.room))
