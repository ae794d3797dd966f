use Rattle.std.proofs.Common.{refl}
use Rattle.pz_rules.specs.InternalActions.{Performs}
use Rattle.pz_rules.specs.View.{term_view}
use Rattle.pz_bind.specs.pz_classes.CheckedView.{checked_model}
use Rattle.pz_term_processes.specs.pz_part_opening.Homes.{home_view}
use Rattle.pz_term_processes.specs.pz_part_actions.Homes.{standing_at, seen_home}
use Rattle.pz_rules.specs.Acting.{IsActing}
use Rattle.pz_term_processes.specs.pz_part_actions.Becoming.{process_left}
use Rattle.pz_term_steps.specs.devices.Deeds.{CanAct}
use Rattle.pz_term_processes.proofs.pz_part_actions_proofs.Statements.{acting_place}
use Rattle.pz_term_steps.proofs.Marked.{known_is, may_act, part_is, place_is, part_fits, leaves_begun}
use Rattle.pz_term_steps.proofs.beginning.begin_internal.Goals as goal

pub part_at-requires : goal.part_at-requires
part_at-requires c =
    may_act CanAct (seen_home c.args.here.now c.args.home.now c.args.process.now.state.held) (term_view c.args.process.now.term) c.args.place.now c.requires.can c.active_parts_may_act.ensures.law

pub pos_of-pos-requires : goal.pos_of-pos-requires
pos_of-pos-requires c =
    place_is CanAct (seen_home c.args.here.now c.args.home.now c.args.process.now.state.held) (term_view c.args.process.now.term) c.args.place.now c.requires.can
    c.part_at.result.0.0 (term_view c.part_at.result.1.now) c.part_at.ensures (λ f x pos can. acting_place _ f x can.0 pos can.1)

pub perform-requires-clause-known : goal.perform-requires-clause-known
perform-requires-clause-known c = known_is (checked_model c.args.home.now.checked.now) c.args.here.now c.requires.knows

pub perform-requires-clause-acts : goal.perform-requires-clause-acts
perform-requires-clause-acts c =
    part_is CanAct (seen_home c.args.here.now c.args.home.now c.args.process.now.state.held) (term_view c.args.process.now.term) c.args.place.now c.requires.can
    c.part_at.result.0.0 (term_view c.part_at.result.1.now) c.part_at.ensures (λ pos x. IsActing x) (λ f x pos can. c.offered_parts_act.ensures.acts _ f x can.0 pos can.1)

pub perform-requires-clause-fits : goal.perform-requires-clause-fits
perform-requires-clause-fits c =
    part_fits CanAct (seen_home c.args.here.now c.args.home.now c.args.process.now.state.held) (term_view c.args.process.now.term) c.args.place.now c.requires.can
    c.part_at.result.0.0 (term_view c.part_at.result.1.now) c.part_at.ensures c.active_parts_fit.ensures.law c.args.here.now c.args.home.now.class c.requires.fits

pub returns-clause-leaves : goal.returns-clause-leaves
returns-clause-leaves c =
    leaves_begun CanAct Performs (λ a f x pos can. acting_place a f x can.0 pos can.1) (checked_model c.args.home.now.checked.now) (standing_at c.args.here.now c.args.home.now) c.args.home.now.class.0 (term_view c.args.process.now.term) c.args.place.now
    c.args.process.now.state c.mark.new.self c.perform.new.state c.hold.new.process.state c.in_ok-point.point c.part_at.result.0.0 (term_view c.part_at.result.1.now) c.pos_of-pos.result
    (process_left c.perform.new.state.held c.in_ok-left.left) c.hold.result
    (home_view c.args.home.now) refl
    c.in_ok-point.ensures.ok c.part_at.ensures c.pos_of-pos.ensures c.active_parts_may_act.ensures.law (λ pos can. let done = c.in_ok-left.ensures.performs can.0 pos c.requires.knows can.1 in (done.left, done.performs, done.becomes))
    (c.hold.ensures.left c.args.process.now.state.held) c.hold.ensures.state c.requires.can
