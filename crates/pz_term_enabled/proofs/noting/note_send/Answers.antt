use Rattle.std.proofs.Common.{Result, subst, ap, ◌∙◌}
use Rattle.pz_classes_code.specs.pz_syntax.declared.names.Id.{Id}
use Rattle.pz_rules.specs.pz_copy.Parcels.{ParcelView}
use Rattle.pz_rules.specs.pz_offer.declared.trouble.Trouble.{Trouble}
use Rattle.pz_term_processes.specs.pz_part_queries.Parcels.{Packs}
use Rattle.pz_classes_code.specs.CodeView.{part_view}
use Rattle.pz_rules.specs.Terms as terms
use Rattle.pz_classes_code.specs.pz_syntax.Statements as statements
use Rattle.pz_term_processes.specs.pz_part_queries.Standpoints.{seen_from}
use Rattle.pz_term_enabled.proofs.Asks.{send_added, send_troubled}
use Rattle.pz_term_enabled.proofs.noting.note_send.Goals as goal

pub returns-in_ok-push-in-Ok-clause-adds : goal.returns-in_ok-push-in-Ok-clause-adds
returns-in_ok-push-in-Ok-clause-adds c = λ m class after known.
    send_added c.evaluations_are_computed.ensures.parts (seen_from m c.args.here.now class c.args.state.now.held) c.args.frame.0 c.args.pos c.args.port c.args.name.now (part_view c.args.args.now) after
    c.args.place.now c.in_ok-place-in-Ok.place c.in_ok-message-in-Ok.message c.in-Ok.parcel c.args.found.now c.push.new.self (subst (λ (r : Result ParcelView Trouble). Packs (seen_from m c.args.here.now class c.args.state.now.held) c.args.frame.0 c.args.pos (part_view c.args.args.now) r) c.in-Ok.is (c.in_ok-parcel.ensures.packs m class known)) c.in_ok-place-in-Ok.ensures (c.in_ok-message-in-Ok.ensures ∙ ap (λ (x : Id). x.name) c.get.ensures) c.in_ok-push-in-Ok.ensures.items

pub returns-in-Err-clause-adds : goal.returns-in-Err-clause-adds
returns-in-Err-clause-adds c = λ m class after known.
    c.note_trouble.ensures (seen_from m c.args.here.now class c.args.state.now.held) c.args.frame.0 (terms.leaf (statements.send c.args.pos c.args.port c.args.name.now (part_view c.args.args.now) after))
    (send_troubled c.evaluations_are_computed.ensures.parts (seen_from m c.args.here.now class c.args.state.now.held) c.args.frame.0 c.args.pos c.args.port c.args.name.now (part_view c.args.args.now) after c.in-Err.trouble (subst (λ (r : Result ParcelView Trouble). Packs (seen_from m c.args.here.now class c.args.state.now.held) c.args.frame.0 c.args.pos (part_view c.args.args.now) r) c.in-Err.is (c.in_ok-parcel.ensures.packs m class known)))
