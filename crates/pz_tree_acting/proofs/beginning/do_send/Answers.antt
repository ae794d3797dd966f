use Rattle.std.proofs.Common.{Result, sym, subst}
use Rattle.pz_classes_code.specs.pz_syntax.declared.tokens.Pos.{Pos}
use Rattle.pz_part_actions.specs.pz_classes.CheckedView.{checked_model}
use Rattle.pz_part_actions.specs.pz_eval.Known.{AreKnown}
use Rattle.pz_rules.specs.pz_offer.declared.trouble.Trouble.{Trouble}
use Rattle.pz_part_actions.specs.Becoming.{done_left}
use Rattle.pz_part_actions.specs.Homes.{seen_home}
use Rattle.pz_part_actions.specs.pz_part_queries.Standpoints.{Knows, seen_from}
use Rattle.pz_part_actions.specs.pz_part_queries.declared.standpoint.Standpoint.{Standpoint}
use Rattle.pz_rules.specs.Messages.{Hands}
use Rattle.pz_rules.specs.Settings.{Process}
use Rattle.pz_rules.specs.View.{term_view}
use Rattle.pz_tree_acting.specs.Deeds.{CanSend}
use Rattle.pz_tree_acting.specs.devices.Begun.{IsAnswered}
use Rattle.pz_tree_acting.proofs.Marked.{known_is, as_it_is}
use Rattle.pz_tree_acting.proofs.beginning.do_send.Goals as goal

pub hand-requires-clause-known : goal.hand-requires-clause-known
hand-requires-clause-known c = subst (λ (x : Standpoint). AreKnown x.classes.now) (sym c.at_home.ensures) (known_is (checked_model c.args.home.now.checked.now) c.args.here.now c.requires.knows)

pub returns-clause-answers : goal.returns-clause-answers
returns-clause-answers c = λ parcel.
    let m = checked_model c.args.home.now.checked.now in
    let class = c.args.home.now.class.0 in
    let s = c.args.state.now.held in
    let f = c.args.frame.0 in
    let y = term_view c.args.part.now in
    let left = done_left c.hand.new.state.held c.in_ok-left.left in
    subst (λ (r : Result Process Trouble). IsAnswered (CanSend parcel) (λ a g. Hands a g parcel) (seen_home c.args.here.now c.args.home.now s) f y r) (sym (c.done_by.ensures c.hand.new.state.held))
    (as_it_is (CanSend parcel) (λ a g. Hands a g parcel) (seen_home c.args.here.now c.args.home.now s) f y left
    (subst (λ (x : Standpoint). Knows m x → (pos : Pos) → CanSend parcel (seen_from m x class s) f y pos → Hands (seen_from m x class s) f parcel y pos left)
    c.at_home.ensures (λ known pos can. c.in_ok-left.ensures.hands m class pos can.0 can.1 parcel known can.2) c.requires.knows))
