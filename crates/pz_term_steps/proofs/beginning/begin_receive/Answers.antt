use Rattle.std.proofs.Common.{refl, ◌∙◌, ap, Result, sym, subst}
use Rattle.pz_rules.specs.pz_offer.declared.trouble.Trouble.{Trouble}
use Rattle.pz_classes_code.specs.pz_syntax.declared.tokens.Pos.{Pos}
use Rattle.pz_term_processes.specs.pz_eval.Known.{AreKnown}
use Rattle.pz_term_processes.specs.pz_part_queries.declared.standpoint.Standpoint.{Standpoint}
use Rattle.pz_term_processes.specs.pz_part_queries.Standpoints.{Knows, seen_from}
use Rattle.pz_rules.specs.Settings.{Process}
use Rattle.pz_rules.specs.Meanings.{and_then}
use Rattle.pz_rules.specs.Messages.{Takes}
use Rattle.pz_rules.specs.View.{term_view}
use Rattle.pz_bind.specs.pz_classes.CheckedView.{checked_model}
use Rattle.pz_term_processes.specs.pz_part_opening.Homes.{home_view}
use Rattle.pz_term_processes.specs.pz_part_actions.Homes.{standing_at, seen_home}
use Rattle.pz_rules.specs.Acting.{IsReceive}
use Rattle.pz_term_processes.specs.pz_part_actions.Becoming.{done_left}
use Rattle.pz_term_steps.specs.devices.Deeds.{CanReceive, settled_home}
use Rattle.pz_term_processes.proofs.pz_part_actions_proofs.Statements.{receiving_place}
use Rattle.pz_term_steps.proofs.Marked.{known_is, may_act, part_is, place_is, as_it_is, leaves_begun}
use Rattle.pz_term_steps.proofs.beginning.begin_receive.Goals as goal

pub part_at-requires : goal.part_at-requires
part_at-requires c =
    may_act CanReceive (seen_home c.args.here.now c.args.home.now c.args.process.now.state.held) (term_view c.args.process.now.term) c.args.place.now c.requires.can c.active_parts_may_act.ensures.law

pub pos_of-pos-requires : goal.pos_of-pos-requires
pos_of-pos-requires c =
    place_is CanReceive (seen_home c.args.here.now c.args.home.now c.args.process.now.state.held) (term_view c.args.process.now.term) c.args.place.now c.requires.can
    c.part_at.result.0.0 (term_view c.part_at.result.1.now) c.part_at.ensures (λ f x pos can. receiving_place x pos can.0 can.1 can.2 can.3)

pub take-requires-clause-receives : goal.take-requires-clause-receives
take-requires-clause-receives c =
    part_is CanReceive (seen_home c.args.here.now c.args.home.now c.args.process.now.state.held) (term_view c.args.process.now.term) c.args.place.now c.requires.can
    c.part_at.result.0.0 (term_view c.part_at.result.1.now) c.part_at.ensures (λ pos x. IsReceive x) (λ f x pos can. c.offered_parts_act.ensures.receives x pos can.0 can.1 can.2 can.3)

pub take-requires-clause-known : goal.take-requires-clause-known
take-requires-clause-known c = subst (λ (x : Standpoint). AreKnown x.classes.now) (sym c.at_home.ensures) (known_is (checked_model c.args.home.now.checked.now) c.args.here.now c.requires.knows)

pub returns-clause-leaves : goal.returns-clause-leaves
returns-clause-leaves c =
    let a = seen_home c.args.here.now c.args.home.now c.args.process.now.state.held in
    leaves_begun CanReceive (λ a f. Takes a f c.args.parcel.now) (λ a f x pos can. receiving_place x pos can.0 can.1 can.2 can.3) (checked_model c.args.home.now.checked.now) (standing_at c.args.here.now c.args.home.now) c.args.home.now.class.0 (term_view c.args.process.now.term) c.args.place.now
    c.args.process.now.state c.mark.new.self c.take.new.state c.hold.new.process.state c.in_ok-point.point c.part_at.result.0.0 (term_view c.part_at.result.1.now) c.pos_of-pos.result
    (done_left c.take.new.state.held c.in_ok-left.left) c.hold.result
    (home_view c.args.home.now) refl
    c.in_ok-point.ensures.ok c.part_at.ensures c.pos_of-pos.ensures c.active_parts_may_act.ensures.law
    (as_it_is CanReceive (λ a f. Takes a f c.args.parcel.now) (seen_home c.args.here.now c.args.home.now c.mark.new.self.held) c.part_at.result.0.0 (term_view c.part_at.result.1.now) (done_left c.take.new.state.held c.in_ok-left.left)
    (subst (λ (x : Standpoint). Knows (checked_model c.args.home.now.checked.now) x → (pos : Pos) → CanReceive (seen_from (checked_model c.args.home.now.checked.now) x c.args.home.now.class.0 c.mark.new.self.held) c.part_at.result.0.0 (term_view c.part_at.result.1.now) pos
    → Takes (seen_from (checked_model c.args.home.now.checked.now) x c.args.home.now.class.0 c.mark.new.self.held) c.part_at.result.0.0 c.args.parcel.now (term_view c.part_at.result.1.now) pos (done_left c.take.new.state.held c.in_ok-left.left))
    c.at_home.ensures (λ known pos can. c.in_ok-left.ensures.takes (checked_model c.args.home.now.checked.now) c.args.home.now.class.0 pos can.0 can.1 can.2 known can.3) c.requires.knows))
    (c.hold.ensures.left c.args.process.now.state.held
    ∙ ap (λ (r : Result Process Trouble). and_then r (settled_home (home_view c.args.home.now) a c.pos_of-pos.result (term_view c.args.process.now.term) c.args.place.now)) (c.done_by.ensures c.take.new.state.held))
    c.hold.ensures.state c.requires.can
