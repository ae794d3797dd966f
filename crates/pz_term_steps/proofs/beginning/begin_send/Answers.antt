use Rattle.std.proofs.Common.{refl, ◌∙◌, ap, Result, sym, subst}
use Rattle.pz_rules.specs.pz_offer.declared.trouble.Trouble.{Trouble}
use Rattle.pz_classes_code.specs.pz_syntax.declared.tokens.Pos.{Pos}
use Rattle.pz_term_processes.specs.pz_eval.Known.{AreKnown}
use Rattle.pz_term_processes.specs.pz_part_queries.declared.standpoint.Standpoint.{Standpoint}
use Rattle.pz_term_processes.specs.pz_part_queries.Standpoints.{Knows, seen_from}
use Rattle.pz_rules.specs.Settings.{Process}
use Rattle.pz_rules.specs.Meanings.{and_then}
use Rattle.pz_rules.specs.Messages.{Hands}
use Rattle.pz_rules.specs.View.{term_view}
use Rattle.pz_bind.specs.pz_classes.CheckedView.{checked_model}
use Rattle.pz_term_processes.specs.pz_part_opening.Homes.{home_view}
use Rattle.pz_term_processes.specs.pz_part_actions.Homes.{standing_at, seen_home}
use Rattle.pz_rules.specs.Acting.{IsSend}
use Rattle.pz_term_processes.specs.pz_part_actions.Becoming.{done_left}
use Rattle.pz_term_steps.specs.devices.Deeds.{CanSend, settled_home}
use Rattle.pz_term_processes.proofs.pz_part_actions_proofs.Statements.{sending_place}
use Rattle.pz_term_steps.proofs.Marked.{known_is, may_act, part_is, place_is, as_it_is, leaves_begun}
use Rattle.pz_term_steps.proofs.beginning.begin_send.Goals as goal

pub part_at-requires : goal.part_at-requires
part_at-requires c =
    may_act (CanSend c.requires.can.0) (seen_home c.args.here.now c.args.home.now c.args.process.now.state.held) (term_view c.args.process.now.term) c.args.place.now c.requires.can.1 c.active_parts_may_act.ensures.law

pub pos_of-pos-requires : goal.pos_of-pos-requires
pos_of-pos-requires c =
    place_is (CanSend c.requires.can.0) (seen_home c.args.here.now c.args.home.now c.args.process.now.state.held) (term_view c.args.process.now.term) c.args.place.now c.requires.can.1
    c.part_at.result.0.0 (term_view c.part_at.result.1.now) c.part_at.ensures (λ f x pos can. sending_place _ f x pos can.0 can.1 c.requires.can.0 can.2)

pub hand-requires-clause-sends : goal.hand-requires-clause-sends
hand-requires-clause-sends c =
    part_is (CanSend c.requires.can.0) (seen_home c.args.here.now c.args.home.now c.args.process.now.state.held) (term_view c.args.process.now.term) c.args.place.now c.requires.can.1
    c.part_at.result.0.0 (term_view c.part_at.result.1.now) c.part_at.ensures (λ pos x. IsSend x) (λ f x pos can. c.offered_parts_act.ensures.sends _ f x pos can.0 can.1 c.requires.can.0 can.2)

pub hand-requires-clause-known : goal.hand-requires-clause-known
hand-requires-clause-known c = subst (λ (x : Standpoint). AreKnown x.classes.now) (sym c.at_home.ensures) (known_is (checked_model c.args.home.now.checked.now) c.args.here.now c.requires.knows)

pub returns-clause-leaves : goal.returns-clause-leaves
returns-clause-leaves c = λ parcel.
    let a = seen_home c.args.here.now c.args.home.now c.args.process.now.state.held in
    leaves_begun (CanSend parcel) (λ a f. Hands a f parcel) (λ a f x pos can. sending_place a f x pos can.0 can.1 parcel can.2) (checked_model c.args.home.now.checked.now) (standing_at c.args.here.now c.args.home.now) c.args.home.now.class.0 (term_view c.args.process.now.term) c.args.place.now
    c.args.process.now.state c.mark.new.self c.hand.new.state c.hold.new.process.state c.in_ok-point.point c.part_at.result.0.0 (term_view c.part_at.result.1.now) c.pos_of-pos.result
    (done_left c.hand.new.state.held c.in_ok-left.left) c.hold.result
    (home_view c.args.home.now) refl
    c.in_ok-point.ensures.ok c.part_at.ensures c.pos_of-pos.ensures c.active_parts_may_act.ensures.law
    (as_it_is (CanSend parcel) (λ a f. Hands a f parcel) (seen_home c.args.here.now c.args.home.now c.mark.new.self.held) c.part_at.result.0.0 (term_view c.part_at.result.1.now) (done_left c.hand.new.state.held c.in_ok-left.left)
    (subst (λ (x : Standpoint). Knows (checked_model c.args.home.now.checked.now) x → (pos : Pos) → CanSend parcel (seen_from (checked_model c.args.home.now.checked.now) x c.args.home.now.class.0 c.mark.new.self.held) c.part_at.result.0.0 (term_view c.part_at.result.1.now) pos
    → Hands (seen_from (checked_model c.args.home.now.checked.now) x c.args.home.now.class.0 c.mark.new.self.held) c.part_at.result.0.0 parcel (term_view c.part_at.result.1.now) pos (done_left c.hand.new.state.held c.in_ok-left.left))
    c.at_home.ensures (λ known pos can. c.in_ok-left.ensures.hands (checked_model c.args.home.now.checked.now) c.args.home.now.class.0 pos can.0 can.1 parcel known can.2) c.requires.knows))
    (c.hold.ensures.left c.args.process.now.state.held
    ∙ ap (λ (r : Result Process Trouble). and_then r (settled_home (home_view c.args.home.now) a c.pos_of-pos.result (term_view c.args.process.now.term) c.args.place.now)) (c.done_by.ensures c.hand.new.state.held))
    c.hold.ensures.state
