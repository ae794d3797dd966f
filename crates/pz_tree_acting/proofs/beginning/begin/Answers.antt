use Rattle.std.proofs.Common.{refl, ap, arith}
use Rattle.std.proofs.Math.Logic.{∥∥₁_map, ∥∥₁_elim, ∥∥₁_prop}
use Rattle.pz_part_actions.specs.pz_classes.CheckedView.{checked_model}
use Rattle.pz_nodes.specs.Arena.{find}
use Rattle.pz_part_actions.specs.Becoming.{process_left}
use Rattle.pz_part_actions.specs.Homes.{standing_at, seen_home}
use Rattle.pz_part_actions.specs.pz_part_opening.Homes.{home_view}
use Rattle.pz_rules.specs.View.{term_view}
use Rattle.pz_rules.specs.pz_state.Marks.{Seen}
use Rattle.pz_tree_regrowing.specs.pz_tree_nodes.View.{term_in_option}
use Rattle.pz_tree_acting.specs.Deeds.{able, deed}
use Rattle.pz_tree_acting.specs.Acting.{MayBeDone}
use Rattle.pz_tree_acting.specs.devices.Begun.{ActsSo}
use Rattle.pz_tree_acting.proofs.Found.{able_place}
use Rattle.pz_tree_acting.proofs.Marked.{may_act, part_is, place_is, part_fits, leaves_begun}
use Rattle.pz_tree_acting.proofs.Begins.{located, acts_so, begun_state, deed_can, part_left_short, deed_opened, begun_short, begun_opens, answer_is, numbers_few}
use Rattle.pz_tree_acting.proofs.Merely.{acts_merely, place_merely, short_merely, opens_merely}
use Rattle.pz_tree_acting.proofs.beginning.begin.Goals as goal

pub pos_of-pos-requires : goal.pos_of-pos-requires
pos_of-pos-requires g c =
    place_merely (term_view c.in_ok-part.part) (∥∥₁_map c.requires.can (λ (r : MayBeDone c.args.here.now c.args.home.now c.args.how (find c.args.nodes.now) c.args.root c.args.state.now.held c.args.place.now).
    let how = c.args.how in
    let a = seen_home c.args.here.now c.args.home.now c.args.state.now.held in
    let t = term_in_option c.args.here.now.clock r.plant in
    let spot = c.part_at-spot.result in
    let y = term_view c.in_ok-part.part in
    let found = located c.tended_nodes_stand.ensures.law c.active_parts_are_at_their_places.ensures.law (find c.args.nodes.now) c.args.root c.args.here.now.clock r.plant r.rooted how r.parcel a c.args.place.now r.can
    spot.key spot.frame.0 spot.clock c.part_at-spot.ensures.found y c.in_ok-part.ensures.part in
    place_is (able how r.parcel) a t c.args.place.now r.can spot.frame.0 y found (λ f x pos can. able_place how r.parcel a f x pos can)))

pub do_deed-requires-clause-acts : goal.do_deed-requires-clause-acts
do_deed-requires-clause-acts g c =
    acts_merely c.args.how (term_view c.in_ok-part.part) (∥∥₁_map c.requires.can (λ (r : MayBeDone c.args.here.now c.args.home.now c.args.how (find c.args.nodes.now) c.args.root c.args.state.now.held c.args.place.now).
    let how = c.args.how in
    let a = seen_home c.args.here.now c.args.home.now c.args.state.now.held in
    let t = term_in_option c.args.here.now.clock r.plant in
    let spot = c.part_at-spot.result in
    let y = term_view c.in_ok-part.part in
    let found = located c.tended_nodes_stand.ensures.law c.active_parts_are_at_their_places.ensures.law (find c.args.nodes.now) c.args.root c.args.here.now.clock r.plant r.rooted how r.parcel a c.args.place.now r.can
    spot.key spot.frame.0 spot.clock c.part_at-spot.ensures.found y c.in_ok-part.ensures.part in
    part_is (able how r.parcel) a t c.args.place.now r.can spot.frame.0 y found (λ pos x. ActsSo how x)
    (acts_so c.offered_parts_act.ensures.acts c.offered_parts_act.ensures.sends c.offered_parts_act.ensures.receives how r.parcel a)))

pub do_deed-requires-clause-fits : goal.do_deed-requires-clause-fits
do_deed-requires-clause-fits g c =
    ∥∥₁_elim c.requires.can ∥∥₁_prop (λ (r : MayBeDone c.args.here.now c.args.home.now c.args.how (find c.args.nodes.now) c.args.root c.args.state.now.held c.args.place.now).
    let how = c.args.how in
    let a = seen_home c.args.here.now c.args.home.now c.args.state.now.held in
    let t = term_in_option c.args.here.now.clock r.plant in
    let spot = c.part_at-spot.result in
    let y = term_view c.in_ok-part.part in
    let found = located c.tended_nodes_stand.ensures.law c.active_parts_are_at_their_places.ensures.law (find c.args.nodes.now) c.args.root c.args.here.now.clock r.plant r.rooted how r.parcel a c.args.place.now r.can
    spot.key spot.frame.0 spot.clock c.part_at-spot.ensures.found y c.in_ok-part.ensures.part in
    part_fits (able how r.parcel) a t c.args.place.now r.can spot.frame.0 y found c.active_parts_fit.ensures.law c.args.here.now c.args.home.now.class r.fits)

pub returns-clause-leaves : goal.returns-clause-leaves
returns-clause-leaves g c = λ p parcel rooted there.
    let how = c.args.how in
    let a = seen_home c.args.here.now c.args.home.now c.args.state.now.held in
    let t = term_in_option c.args.here.now.clock p in
    let place = c.args.place.now in
    let spot = c.part_at-spot.result in
    let y = term_view c.in_ok-part.part in
    let found = located c.tended_nodes_stand.ensures.law c.active_parts_are_at_their_places.ensures.law (find c.args.nodes.now) c.args.root c.args.here.now.clock p rooted how parcel a place there
    spot.key spot.frame.0 spot.clock c.part_at-spot.ensures.found y c.in_ok-part.ensures.part in
    leaves_begun (able how parcel) (deed how parcel) (able_place how parcel) (checked_model c.args.home.now.checked.now) (standing_at c.args.here.now c.args.home.now) c.args.home.now.class.0 t place
    c.args.state.now c.mark.new.self c.do_deed.new.state c.hold.new.state c.in_ok-point.point spot.frame.0 y c.pos_of-pos.result
    (process_left c.do_deed.new.state.held c.in_ok-left.left) c.hold.result (home_view c.args.home.now) refl
    c.in_ok-point.ensures.ok found c.pos_of-pos.ensures c.active_parts_may_act.ensures.law (c.in_ok-left.ensures.answers parcel)
    (c.hold.ensures.left c.args.here.now.clock p c.args.state.now.held rooted (may_act (able how parcel) a t place there c.active_parts_may_act.ensures.law))
    c.hold.ensures.state (answer_is c.do_deed.new.state.held c.in_ok-left.left c.hold.result c.hold.ensures.part) there

pub returns-clause-state : goal.returns-clause-state
returns-clause-state g c = begun_state c.args.state.now c.mark.new.self c.do_deed.new.state c.hold.new.state c.in_ok-point.point c.hold.result c.in_ok-point.ensures.ok c.in_ok-left.ensures.marks c.hold.ensures.state

pub returns-clause-opens : goal.returns-clause-opens
returns-clause-opens g c =
    opens_merely c.args.home.now.edition c.args.state.now.held c.hold.new.state.held c.hold.result (∥∥₁_map c.requires.can (λ (r : MayBeDone c.args.here.now c.args.home.now c.args.how (find c.args.nodes.now) c.args.root c.args.state.now.held c.args.place.now).
    let how = c.args.how in
    let a = seen_home c.args.here.now c.args.home.now c.args.state.now.held in
    let t = term_in_option c.args.here.now.clock r.plant in
    let spot = c.part_at-spot.result in
    let y = term_view c.in_ok-part.part in
    let found = located c.tended_nodes_stand.ensures.law c.active_parts_are_at_their_places.ensures.law (find c.args.nodes.now) c.args.root c.args.here.now.clock r.plant r.rooted how r.parcel a c.args.place.now r.can
    spot.key spot.frame.0 spot.clock c.part_at-spot.ensures.found y c.in_ok-part.ensures.part in
    let can = deed_can c.args.here.now c.args.home.now how r.parcel c.args.state.now.held c.mark.new.self.held t c.args.place.now r.can spot.frame.0 y found (ap (λ (s : Seen). s.held) c.in_ok-point.ensures.ok) in
    begun_opens c.args.home.now.edition c.args.state.now c.mark.new.self c.do_deed.new.state c.hold.new.state c.in_ok-point.point c.in_ok-left.left c.hold.result c.in_ok-point.ensures.ok c.hold.ensures.part c.hold.ensures.state
    (deed_opened c.args.here.now c.args.home.now how r.parcel c.mark.new.self.held c.do_deed.new.state.held spot.frame.0 y c.in_ok-left.left c.in_ok-left.ensures.answers r.can.it_holds.0 can
    c.deeds_open_frames.ensures.performed c.deeds_open_frames.ensures.handed c.deeds_open_frames.ensures.taken)))

pub returns-clause-short : goal.returns-clause-short
returns-clause-short g c =
    short_merely c.hold.result (∥∥₁_map c.requires.can (λ (r : MayBeDone c.args.here.now c.args.home.now c.args.how (find c.args.nodes.now) c.args.root c.args.state.now.held c.args.place.now).
    let how = c.args.how in
    let a = seen_home c.args.here.now c.args.home.now c.args.state.now.held in
    let t = term_in_option c.args.here.now.clock r.plant in
    let spot = c.part_at-spot.result in
    let y = term_view c.in_ok-part.part in
    let found = located c.tended_nodes_stand.ensures.law c.active_parts_are_at_their_places.ensures.law (find c.args.nodes.now) c.args.root c.args.here.now.clock r.plant r.rooted how r.parcel a c.args.place.now r.can
    spot.key spot.frame.0 spot.clock c.part_at-spot.ensures.found y c.in_ok-part.ensures.part in
    let can = deed_can c.args.here.now c.args.home.now how r.parcel c.args.state.now.held c.mark.new.self.held t c.args.place.now r.can spot.frame.0 y found (ap (λ (s : Seen). s.held) c.in_ok-point.ensures.ok) in
    begun_short c.in_ok-left.left c.hold.result c.hold.ensures.part
    (part_left_short c.args.here.now c.args.home.now how r.parcel c.mark.new.self.held c.do_deed.new.state.held spot.frame.0 y c.in_ok-left.left c.in_ok-left.ensures.answers r.can.it_holds.0 can)))

pub returns-clause-ticks : goal.returns-clause-ticks
returns-clause-ticks g c = λ p parcel rooted there.
    let how = c.args.how in
    let a = seen_home c.args.here.now c.args.home.now c.args.state.now.held in
    let t = term_in_option c.args.here.now.clock p in
    let place = c.args.place.now in
    let low = c.hold.ensures.ticks 0 c.args.here.now.clock p rooted.under rooted.stands rooted.tended (may_act (able how parcel) a t place there c.active_parts_may_act.ensures.law) in
    let numbers = numbers_few t place in
    omega (arith, low, numbers, c.part_at-spot.ensures.ticks, c.part_under.ensures.ticks)
