-- What stays has the marks of the new offers, and the receives that are gathered are those that were kept.
use Rattle.std.proofs.Common.{sym, subst, List}
use Rattle.std.specs.Prelude.{All}
use Rattle.std.proofs.lemmas.List.Elements.{All-weaker}
use Rattle.pz_match.specs.declared.kept.Sending.{Sending}
use Rattle.pz_match.specs.declared.kept.Receiving.{Receiving}
use Rattle.pz_match.specs.devices.Users.{Gathered}
use Rattle.pz_match.specs.devices.Holding.{SendKeyed, ReceiveKeyed}
use Rattle.pz_match.proofs.Grouped.{follows_next}
use Rattle.pz_match.proofs.Offered.{send_keyed, receive_keyed}
use Rattle.pz_match.proofs.updating.withdraw.Goals as goal

pub returns-clause-gathered : goal.returns-clause-gathered
returns-clause-gathered c = subst (λ (rs : List Receiving). Gathered c.args.users.now.senders c.gather.new.places rs) c.as_slice.ensures.value c.in_ok-gather.ensures.gathered

pub returns-clause-may_send : goal.returns-clause-may_send
returns-clause-may_send c =
    let now = c.part_receives.new.groups in
    let follows = follows_next c.in_ok-part_sends.ensures.follows c.in_ok-part_receives.ensures.follows in
    c.in_ok-part_sends.ensures.may now
    (subst (λ (ss : List Sending). All (SendKeyed now) ss) (sym c.as_slice-2.ensures.value) (All-weaker (SendKeyed c.args.groups.now) (SendKeyed now) (send_keyed follows) c.args.offers.now.sends.items c.requires.sends))

pub returns-clause-may_receive : goal.returns-clause-may_receive
returns-clause-may_receive c =
    let now = c.part_receives.new.groups in
    let follows = follows_next c.in_ok-part_sends.ensures.follows c.in_ok-part_receives.ensures.follows in
    c.in_ok-part_receives.ensures.may now
    (subst (λ (rs : List Receiving). All (ReceiveKeyed now) rs) (sym c.as_slice-4.ensures.value) (All-weaker (ReceiveKeyed c.args.groups.now) (ReceiveKeyed now) (receive_keyed follows) c.args.offers.now.receives.items c.requires.receives))
