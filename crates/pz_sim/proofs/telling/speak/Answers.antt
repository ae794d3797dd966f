use Rattle.std.proofs.Common.{rules, ◌≡◌, ◌∙◌, refl, sym, ap, subst}
use Rattle.std.proofs.lemmas.Option.{same_Some}
use Rattle.pz_tree.specs.declared.tree.Tree.{Tree}
use Rattle.pz_tree.specs.Trees.{IsFresh}
use Rattle.pz_sim_laws.specs.Offering.{AreSendOffers, AreReceiveOffers}
use Rattle.pz_bind.specs.pz_classes.CheckedView.{checked_model}
use Rattle.pz_sim.specs.Members.{member_of}
use Rattle.pz_sim.proofs.Outcomes.{on_ok6}
use Rattle.pz_sim.proofs.Borrowed.{lent_same}
use Rattle.pz_match.specs.Offers.{senders, receivers}
use Rattle.pz_sim.proofs.Heard.{heard_more, replaced_table, asks_sends, asks_receives, speaks_within, speaks_there, speaks_in_order, hears_in_order}
use Rattle.pz_sim.proofs.telling.speak.Goals as goal

pub update-requires-clause-process : goal.update-requires-clause-process
update-requires-clause-process g c =
    let laws = c.others_stay.ensures in
    speaks_within c.pairs_are_those_of_the_rules.ensures.receivers c.receives_say_one_thing.ensures.computed laws.senders laws.receivers laws.truthful (checked_model c.args.checked.now) c.args.clock c.args.trees.now c.args.pairs.now c.args.process c.args.sends.items c.args.receives.items c.requires

pub update-requires-clause-there : goal.update-requires-clause-there
update-requires-clause-there g c =
    let laws = c.others_stay.ensures in
    speaks_there c.pairs_are_those_of_the_rules.ensures.receivers c.receives_say_one_thing.ensures.computed laws.senders laws.receivers laws.truthful (checked_model c.args.checked.now) c.args.clock c.args.trees.now c.args.pairs.now c.args.process c.args.sends.items c.args.receives.items c.requires

pub update-requires-clause-sends_ordered : goal.update-requires-clause-sends_ordered
update-requires-clause-sends_ordered g c =
    let laws = c.others_stay.ensures in
    speaks_in_order c.pairs_are_those_of_the_rules.ensures.receivers c.receives_say_one_thing.ensures.computed laws.senders laws.receivers laws.truthful (checked_model c.args.checked.now) c.args.clock c.args.trees.now c.pairs_are_those_of_the_rules.ensures.sends c.args.pairs.now c.args.process c.args.sends.items c.args.receives.items c.requires

pub update-requires-clause-receives_ordered : goal.update-requires-clause-receives_ordered
update-requires-clause-receives_ordered g c =
    let laws = c.others_stay.ensures in
    hears_in_order c.pairs_are_those_of_the_rules.ensures.receivers c.receives_say_one_thing.ensures.computed laws.senders laws.receivers laws.truthful (checked_model c.args.checked.now) c.args.clock c.args.trees.now c.pairs_are_those_of_the_rules.ensures.receives c.args.pairs.now c.args.process c.args.sends.items c.args.receives.items c.requires

pub update-requires-clause-sends_asked : goal.update-requires-clause-sends_asked
update-requires-clause-sends_asked g c s r there_s there_r fits cond =
    let laws = c.others_stay.ensures in
    asks_sends c.pairs_are_those_of_the_rules.ensures.receivers c.receives_say_one_thing.ensures.computed laws.senders laws.receivers laws.truthful (checked_model c.args.checked.now) c.args.clock c.args.trees.now c.args.pairs.now c.args.process c.args.sends.items c.args.receives.items c.requires s r there_s there_r fits

pub update-requires-clause-receives_asked : goal.update-requires-clause-receives_asked
update-requires-clause-receives_asked g c s r there_s there_r fits cond =
    let laws = c.others_stay.ensures in
    asks_receives c.pairs_are_those_of_the_rules.ensures.receivers c.receives_say_one_thing.ensures.computed laws.senders laws.receivers laws.truthful (checked_model c.args.checked.now) c.args.clock c.args.trees.now c.args.pairs.now c.args.process c.args.sends.items c.args.receives.items c.requires r there_r

pub returns-clause-table : goal.returns-clause-table
returns-clause-table g c hs tree is heard can table =
    let u = c.update.ensures in
    let m = checked_model c.args.checked.now in
    let laws = c.others_stay.ensures in
    let same : can.tree ≡ tree = same_Some can.tree tree (sym can.is ∙ is) in
    on_ok6 c.update.result u.there u.senders u.receivers u.pairs u.asked_now u.others (λ there sends receives pairs asked others.
    replaced_table c.pairs_are_those_of_the_rules.ensures.receivers c.receives_say_one_thing.ensures.computed laws.senders laws.receivers laws.truthful m c.args.clock c.args.trees.now hs c.args.process (member_of m tree)
    (senders c.args.process c.args.sends.items) (receivers c.args.process c.args.receives.items) c.args.pairs.now c.update.new.self
    (heard_more m c.args.clock c.args.trees.now hs c.args.process tree is (subst (IsFresh m) same can.fresh) (ap (λ (t : Tree). t.clock) (sym same) ∙ can.same_clock) heard)
    (record { offers = c.args.sends.items; are = subst (λ (t : Tree). AreSendOffers (member_of m t) c.args.sends.items) same can.are_sends; over_wires = refl })
    (record { offers = c.args.receives.items; are = subst (λ (t : Tree). AreReceiveOffers (member_of m t) c.args.receives.items) same can.are_receives; over_wires = refl })
    table there sends receives pairs asked others)

pub returns-clause-trees : goal.returns-clause-trees
returns-clause-trees g c =
    let back : c.update.new.judge.trees.now ≡ c.trees-1.given.0 = search rules in
    sym back ∙ lent_same _ _ _ _ _ _ c.update.ensures.lent
