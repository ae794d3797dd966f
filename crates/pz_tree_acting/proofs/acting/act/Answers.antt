use Rattle.std.proofs.Common.{refl}
use Rattle.std.proofs.Math.Logic.{∥∥₁_map}
use Rattle.pz_nodes.specs.Arena.{find}
use Rattle.pz_part_actions.specs.Homes.{seen_home}
use Rattle.pz_tree_regrowing.specs.pz_tree_nodes.View.{term_in_option}
use Rattle.pz_tree_acting.specs.Acting.{MayBeDone}
use Rattle.pz_tree_acting.proofs.Merely.{room_merely}
use Rattle.pz_tree_acting.proofs.Finished.{begun_latest, begun_trouble, begun_older, begun_has_opened, begun_is_short, acts_trouble, acts_well}
use Rattle.pz_tree_acting.proofs.acting.act.Goals as goal

pub finish-requires-clause-latest : goal.finish-requires-clause-latest
finish-requires-clause-latest g c = begun_latest c.args.state.now c.begin.new.state c.in_ok-begun.field-0 c.in-Ok.begun c.in-Ok.is c.in_ok-begun.ensures.state

pub finish-requires-clause-short : goal.finish-requires-clause-short
finish-requires-clause-short g c = begun_is_short c.in_ok-begun.field-0 c.in-Ok.begun c.in-Ok.is c.in_ok-begun.ensures.short

pub finish-requires-clause-room : goal.finish-requires-clause-room
finish-requires-clause-room g c =
    room_merely c.args.here.now.clock (∥∥₁_map c.requires.can (λ (r : MayBeDone c.args.here.now c.args.home.now c.args.how (find c.args.nodes.now) c.args.root c.args.state.now.held c.args.place.now). r.rooted.room))

pub finish-requires-clause-stands : goal.finish-requires-clause-stands
finish-requires-clause-stands g c =
    ∥∥₁_map c.requires.can (λ (r : MayBeDone c.args.here.now c.args.home.now c.args.how (find c.args.nodes.now) c.args.root c.args.state.now.held c.args.place.now).
    (r.plant, r.rooted, c.active_parts_may_act.ensures.law (seen_home c.args.here.now c.args.home.now c.args.state.now.held) (term_in_option c.args.here.now.clock r.plant) c.args.place.now r.can.frame r.can.part r.can.active))

pub returns-in_ok-out-in-Ok-clause-acts : goal.returns-in_ok-out-in-Ok-clause-acts
returns-in_ok-out-in-Ok-clause-acts g c =
    acts_well c.args.here.now c.args.home.now c.args.how (find c.args.nodes.now) c.args.root c.args.place.now c.args.state.now c.begin.new.state c.in_ok-begun.field-0 c.in_ok-begun.ensures.leaves
    c.active_parts_may_act.ensures.law c.active_parts_are_at_their_places.ensures.law c.in-Ok.begun (find c.finish.new.nodes) c.finish.new.state c.in_ok-out-in-Ok.out c.in_ok-listed.listed.items c.args.steps.now c.begin.new.steps c.finish.new.steps c.in-Ok.is
    (begun_older c.args.state.now c.begin.new.state c.in_ok-begun.field-0 c.in-Ok.begun c.in-Ok.is c.in_ok-begun.ensures.state)
    (begun_has_opened c.args.home.now.edition c.args.state.now.held c.begin.new.state.held c.in_ok-begun.field-0 c.in-Ok.begun c.in-Ok.is c.in_ok-begun.ensures.opens)
    (begun_is_short c.in_ok-begun.field-0 c.in-Ok.begun c.in-Ok.is c.in_ok-begun.ensures.short) c.in_ok-listed.ensures c.in_ok-begun.ensures.ticks
    c.in_ok-out-in-Ok.ensures

pub returns-in-Err-clause-acts : goal.returns-in-Err-clause-acts
returns-in-Err-clause-acts g c =
    acts_trouble c.args.here.now c.args.home.now c.args.how (find c.args.nodes.now) c.args.root c.args.place.now c.args.state.now c.begin.new.state c.in_ok-begun.field-0 c.in_ok-begun.ensures.leaves
    (find c.args.nodes.now) c.begin.new.state c.args.steps.now c.begin.new.steps c.in-Err.trouble c.in-Err.is

pub returns-in-Err-clause-stays : goal.returns-in-Err-clause-stays
returns-in-Err-clause-stays g c = (refl, begun_trouble c.args.state.now c.begin.new.state c.in_ok-begun.field-0 c.in-Err.trouble c.in-Err.is c.in_ok-begun.ensures.state)
