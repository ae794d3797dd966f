use Rattle.std.proofs.Common.{rules, ◌≡◌, ◌∙◌, List, [], set, sym, ap}
use Rattle.pz_bind.specs.pz_classes.CheckedView.{checked_model}
use Rattle.pz_rules.specs.pz_offer.declared.ends.SendOffer.{SendOffer}
use Rattle.pz_rules.specs.pz_offer.declared.ends.ReceiveOffer.{ReceiveOffer}
use Rattle.pz_match.specs.Offers.{senders, receivers}
use Rattle.pz_sim.specs.devices.Tables.{hushed}
use Rattle.pz_sim.proofs.Outcomes.{on_ok6}
use Rattle.pz_sim.proofs.Borrowed.{lent_same}
use Rattle.pz_sim.proofs.Heard.{heard_silent, replaced_table, silent_senders, silent_receivers}
use Rattle.pz_sim.proofs.telling.silence.Goals as goal

pub returns-clause-table : goal.returns-clause-table
returns-clause-table g c hs h is heard table =
    let u = c.update.ensures in
    let m = checked_model c.args.checked.now in
    let laws = c.others_stay.ensures in
    on_ok6 c.update.result u.there u.senders u.receivers u.pairs u.asked_now u.others (λ there sends receives pairs asked others.
    replaced_table c.pairs_are_those_of_the_rules.ensures.receivers c.receives_say_one_thing.ensures.computed laws.senders laws.receivers laws.truthful m c.args.clock c.args.trees.now hs c.args.process (hushed h) [] []
    c.args.pairs.now c.update.new.self (heard_silent m c.args.clock c.args.trees.now hs c.args.process h heard) (silent_senders c.args.process h) (silent_receivers c.args.process h) table there
    (sends ∙ ap (λ (xs : List SendOffer). set c.args.pairs.now.senders c.args.process (senders c.args.process xs)) c.new.ensures.items)
    (receives ∙ ap (λ (xs : List ReceiveOffer). set c.args.pairs.now.receivers c.args.process (receivers c.args.process xs)) c.new-2.ensures.items) pairs asked others)

pub returns-clause-trees : goal.returns-clause-trees
returns-clause-trees g c =
    let back : c.update.new.judge.trees.now ≡ c.trees-1.given.0 = search rules in
    sym back ∙ lent_same _ _ _ _ _ _ c.update.ensures.lent
