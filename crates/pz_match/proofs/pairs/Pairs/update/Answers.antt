-- What is shown of an update.
use Rattle.std.proofs.Common.{◌<◌, ◌+◌, ◌∙◌, sym, ap, subst, ℕ, false, List, length, set, arith}
use Rattle.std.specs.Prelude.{map, not, filter, Contains}
use Rattle.std.proofs.lemmas.List.{length-map}
use Rattle.pz_match.specs.declared.offers.Sender.{Sender}
use Rattle.pz_match.specs.declared.offers.Receiver.{Receiver}
use Rattle.pz_match.specs.Offers.{senders, receivers}
use Rattle.pz_match.specs.Pairs.{touches}
use Rattle.pz_match.specs.Table.{Table, all_senders, all_receivers}
use Rattle.pz_match.specs.devices.Kept.{kept}
use Rattle.pz_match.proofs.Ends.{senders_in, all_senders_are, all_receivers_are}
use Rattle.pz_match.proofs.Shown.{are_pairs, are_free, stands_after, senders_shown, receivers_shown, said_now, others_there, questions_now}
use Rattle.pz_match.proofs.pairs.Pairs.update.Goals as goal

pub alter-requires-clause-sends_asked : goal.alter-requires-clause-sends_asked
alter-requires-clause-sends_asked g c s r sends hears fit conditional =
    c.requires.sends_asked s r sends
    (subst (λ (t : Table). Contains (all_receivers t) r) c.self.view_is (subst (λ (rs : List Receiver). Contains rs r) (sym (all_receivers_are (map kept c.self.inside.offers.items))) hears)) fit conditional

pub alter-requires-clause-receives_asked : goal.alter-requires-clause-receives_asked
alter-requires-clause-receives_asked g c s r sends hears fit conditional =
    c.requires.receives_asked s r
    (subst (λ (t : Table). Contains (all_senders t) s) c.self.view_is (subst (λ (ss : List Sender). Contains ss s) (sym (all_senders_are (map kept c.self.inside.offers.items))) sends)) hears fit conditional

pub alter-requires-clause-within : goal.alter-requires-clause-within
alter-requires-clause-within g c =
    let all = map kept c.self.inside.offers.items in
    let below : c.args.process < length all = subst (λ (n : ℕ). c.args.process < n) (ap (λ (t : Table). length t.senders) (sym c.self.view_is) ∙ length-map all senders_in) c.requires.process in
    omega (arith, below, length-map c.self.inside.offers.items kept)

pub alter-requires-clause-whole : goal.alter-requires-clause-whole
alter-requires-clause-whole g c = c.self.invariant (ap (λ (t : Table). t.lost) c.self.view_is ∙ c.requires.there)

pub returns-clause-senders : goal.returns-clause-senders
returns-clause-senders g c =
    let all = map kept c.self.inside.offers.items in
    let stands = (c.self.invariant (ap (λ (t : Table). t.lost) c.self.view_is ∙ c.requires.there)).stands in
    let below : c.args.process < length all = subst (λ (n : ℕ). c.args.process < n) (ap (λ (t : Table). length t.senders) (sym c.self.view_is) ∙ length-map all senders_in) c.requires.process in
    senders_shown (g.J.Judge.verdict c.args.judge.now) c.args.process c.args.sends.items c.args.receives.items c.self.inside.groups c.alter.new.groups all (map kept c.alter.new.all.items) stands c.in_ok-alter.ensures.replaced below
    ∙ ap (λ (t : Table). set t.senders c.args.process (senders c.args.process c.args.sends.items)) c.self.view_is

pub returns-clause-receivers : goal.returns-clause-receivers
returns-clause-receivers g c =
    let all = map kept c.self.inside.offers.items in
    let stands = (c.self.invariant (ap (λ (t : Table). t.lost) c.self.view_is ∙ c.requires.there)).stands in
    let below : c.args.process < length all = subst (λ (n : ℕ). c.args.process < n) (ap (λ (t : Table). length t.senders) (sym c.self.view_is) ∙ length-map all senders_in) c.requires.process in
    receivers_shown (g.J.Judge.verdict c.args.judge.now) c.args.process c.args.sends.items c.args.receives.items c.self.inside.groups c.alter.new.groups all (map kept c.alter.new.all.items) stands c.in_ok-alter.ensures.replaced below
    ∙ ap (λ (t : Table). set t.receivers c.args.process (receivers c.args.process c.args.receives.items)) c.self.view_is

pub returns-clause-pairs : goal.returns-clause-pairs
returns-clause-pairs g c =
    let all = map kept c.self.inside.offers.items in
    let stands = (c.self.invariant (ap (λ (t : Table). t.lost) c.self.view_is ∙ c.requires.there)).stands in
    let below : c.args.process < length all = subst (λ (n : ℕ). c.args.process < n) (ap (λ (t : Table). length t.senders) (sym c.self.view_is) ∙ length-map all senders_in) c.requires.process in
    are_pairs c.alter.new.groups (map kept c.alter.new.all.items)
    (stands_after (g.J.Judge.verdict c.args.judge.now) c.args.process c.args.sends.items c.args.receives.items c.self.inside.groups c.alter.new.groups all (map kept c.alter.new.all.items) stands c.in_ok-alter.ensures.replaced below c.requires.sends_ordered c.requires.receives_ordered)
    c.in_ok-alter.ensures.distinct c.in_ok-alter.ensures.within false

pub returns-clause-free : goal.returns-clause-free
returns-clause-free g c =
    let all = map kept c.self.inside.offers.items in
    let stands = (c.self.invariant (ap (λ (t : Table). t.lost) c.self.view_is ∙ c.requires.there)).stands in
    let below : c.args.process < length all = subst (λ (n : ℕ). c.args.process < n) (ap (λ (t : Table). length t.senders) (sym c.self.view_is) ∙ length-map all senders_in) c.requires.process in
    are_free c.alter.new.groups (map kept c.alter.new.all.items)
    (stands_after (g.J.Judge.verdict c.args.judge.now) c.args.process c.args.sends.items c.args.receives.items c.self.inside.groups c.alter.new.groups all (map kept c.alter.new.all.items) stands c.in_ok-alter.ensures.replaced below c.requires.sends_ordered c.requires.receives_ordered)
    c.in_ok-alter.ensures.distinct c.in_ok-alter.ensures.within false

pub returns-clause-asked_now : goal.returns-clause-asked_now
returns-clause-asked_now g c =
    let all = map kept c.self.inside.offers.items in
    let stands = (c.self.invariant (ap (λ (t : Table). t.lost) c.self.view_is ∙ c.requires.there)).stands in
    let below : c.args.process < length all = subst (λ (n : ℕ). c.args.process < n) (ap (λ (t : Table). length t.senders) (sym c.self.view_is) ∙ length-map all senders_in) c.requires.process in
    said_now (g.J.Judge.verdict c.args.judge.now) c.args.process c.args.sends.items c.args.receives.items c.self.inside.groups c.alter.new.groups all (map kept c.alter.new.all.items) stands c.in_ok-alter.ensures.replaced below

pub returns-clause-others : goal.returns-clause-others
returns-clause-others g c =
    let all = map kept c.self.inside.offers.items in
    let stands = (c.self.invariant (ap (λ (t : Table). t.lost) c.self.view_is ∙ c.requires.there)).stands in
    let below : c.args.process < length all = subst (λ (n : ℕ). c.args.process < n) (ap (λ (t : Table). length t.senders) (sym c.self.view_is) ∙ length-map all senders_in) c.requires.process in
    others_there (g.J.Judge.verdict c.args.judge.now) c.args.process c.args.sends.items c.args.receives.items c.self.inside.groups c.alter.new.groups all (map kept c.alter.new.all.items) stands c.in_ok-alter.ensures.replaced below c.in_ok-alter.ensures.within_old
    ∙ ap (λ (t : Table). filter (λ q. not (touches c.args.process q)) t.pairs) c.self.view_is

pub returns-clause-questions : goal.returns-clause-questions
returns-clause-questions g c =
    let all = map kept c.self.inside.offers.items in
    let stands = (c.self.invariant (ap (λ (t : Table). t.lost) c.self.view_is ∙ c.requires.there)).stands in
    let below : c.args.process < length all = subst (λ (n : ℕ). c.args.process < n) (ap (λ (t : Table). length t.senders) (sym c.self.view_is) ∙ length-map all senders_in) c.requires.process in
    c.in_ok-alter.ensures.asked
    ∙ ap (λ n. g.J.Judge.asked c.args.judge.now + n) (sym (questions_now (g.J.Judge.verdict c.args.judge.now) c.args.process c.args.sends.items c.args.receives.items c.self.inside.groups c.alter.new.groups all (map kept c.alter.new.all.items) stands c.in_ok-alter.ensures.replaced below c.in_ok-alter.ensures.within))
