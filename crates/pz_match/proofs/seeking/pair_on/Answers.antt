-- The pair that is found, by its ends.
use Rattle.std.proofs.Common.{◌∙◌, sym}
use Rattle.std.specs.Prelude.{map}
use Rattle.pz_match.specs.Pairs.{taken}
use Rattle.pz_match.specs.devices.Kept.{kept, judged, pairs_on}
use Rattle.pz_match.proofs.Ends.{offered_at, offered_none, pair_same}
use Rattle.pz_match.proofs.seeking.pair_on.Goals as goal

pub send_at-requires : goal.send_at-requires
send_at-requires c = let h = c.in-Some.ensures in (h.send, record { kept_there = h.sending_process; there = h.sends; send_there = h.send_there })

pub end_of_receive-requires : goal.end_of_receive-requires
end_of_receive-requires c = let h = c.in-Some.ensures in (h.receive, record { kept_there = h.receiving_process; there = h.receives; receive_there = h.receive_there })

pub returns-in-None : goal.returns-in-None
returns-in-None c = sym (offered_none (taken (pairs_on (map kept c.args.all.now) c.args.wire)) c.args.number c.in-None.ensures)

pub returns-in_ok-receiver-in-Some : goal.returns-in_ok-receiver-in-Some
returns-in_ok-receiver-in-Some c =
    let h = c.in-Some.ensures in
    let sender = c.in_ok-sender-in-Some.ensures h.send (record { kept_there = h.sending_process; there = h.sends; send_there = h.send_there }) in
    let receiver = c.in_ok-receiver-in-Some.ensures h.receive (record { kept_there = h.receiving_process; there = h.receives; receive_there = h.receive_there }) in
    pair_same c.in_ok-sender-in-Some.sender h.send.sender c.in_ok-receiver-in-Some.receiver h.receive.receiver.end sender receiver
    ∙ sym (offered_at (taken (pairs_on (map kept c.args.all.now) c.args.wire)) c.args.number (judged h.send.sender h.receive.receiver c.in-Some.couple.verdict) h.at)
