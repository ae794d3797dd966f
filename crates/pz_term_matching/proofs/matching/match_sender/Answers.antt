use Rattle.std.proofs.Common.{◌≡◌, ◌<◌, ◌+◌, ◌∙◌, List, sym, ap, subst, false, nat_eq, length, drop, arith}
use Rattle.std.proofs.lemmas.Bool.{ne_eqb}
use Rattle.pz_term_matching.specs.declared.ends.Pair.{Pair}
use Rattle.pz_term_matching.specs.declared.ends.Receiver.{Receiver}
use Rattle.pz_term_matching.specs.declared.chains.Link.{Link}
use Rattle.pz_term_matching.specs.devices.Chains.{hears, hears_elsewhere, first_from}
use Rattle.pz_term_matching.proofs.Firsts.{head_read, first_after}
use Rattle.pz_term_matching.proofs.Walking.{IsWalking, begins, passes_own, takes_one, link_at}
use Rattle.pz_term_matching.proofs.matching.match_sender.Goals as goal

pub loop-place-init : goal.loop-place-init
loop-place-init c =
    let key = c.key_of_sender.ensures in
    begins c.args.sender.now c.args.number c.args.receivers.now c.args.chains.now c.args.pairs.now.items c.key_of_sender.result c.first-place.result c.requires key.wire key.message key.count c.first-place.ensures

pub loop-place-smaller-then-receivers-place : goal.loop-place-smaller-then-receivers-place
loop-place-smaller-then-receivers-place c =
    let all = c.args.receivers.now in
    let place = c.loop-place.place in
    let r = c.index-receivers-place.result in
    let at = head_read all place r c.loop-place-test.true c.index-receivers-place.is in
    let room : place < length c.args.chains.now.links.items = omega (arith, c.requires.counted, c.loop-place-test.true) in
    let is : c.index-link.result.now.elsewhere ≡ first_from (hears_elsewhere r.wire r.message r.count r.end.process) (place + 1) (drop (place + 1) all) =
    ap (λ (l : Link). l.elsewhere) (link_at all c.args.chains.now place r c.index-link.result.now c.requires at room c.index-link.ensures) in
    let later = first_after (hears_elsewhere r.wire r.message r.count r.end.process) (place + 1) (drop (place + 1) all) in
    omega (arith, is, later, c.loop-place-test.true)

pub loop-place-preserved-then-receivers-place : goal.loop-place-preserved-then-receivers-place
loop-place-preserved-then-receivers-place c =
    let all = c.args.receivers.now in
    let place = c.loop-place.place in
    let r = c.index-receivers-place.result in
    let at = head_read all place r c.loop-place-test.true c.index-receivers-place.is in
    let room : place < length c.args.chains.now.links.items = omega (arith, c.requires.counted, c.loop-place-test.true) in
    passes_own c.args.sender.now c.args.number all c.args.pairs.now.items c.loop-place.pairs.items place r at c.loop-place.invariant c.index-link.result.now.elsewhere (ap (λ (x : Receiver). x.end.process) c.index-receivers-place.is ∙ c.if-receivers-place.true)
    (ap (λ (l : Link). l.elsewhere) (link_at all c.args.chains.now place r c.index-link.result.now c.requires at room c.index-link.ensures))

pub loop-place-smaller : goal.loop-place-smaller
loop-place-smaller c =
    let all = c.args.receivers.now in
    let place = c.loop-place.place in
    let r = c.index-receivers-place.result in
    let at = head_read all place r c.loop-place-test.true c.index-receivers-place.is in
    let room : place < length c.args.chains.now.links.items = omega (arith, c.requires.counted, c.loop-place-test.true) in
    let is : c.index-link.result.now.next ≡ first_from (hears r.wire r.message r.count) (place + 1) (drop (place + 1) all) =
    ap (λ (l : Link). l.next) (link_at all c.args.chains.now place r c.index-link.result.now c.requires at room c.index-link.ensures) in
    let later = first_after (hears r.wire r.message r.count) (place + 1) (drop (place + 1) all) in
    omega (arith, is, later, c.loop-place-test.true)

pub loop-place-preserved : goal.loop-place-preserved
loop-place-preserved c =
    let s = c.args.sender.now in
    let all = c.args.receivers.now in
    let place = c.loop-place.place in
    let r = c.index-receivers-place.result in
    let at = head_read all place r c.loop-place-test.true c.index-receivers-place.is in
    let room : place < length c.args.chains.now.links.items = omega (arith, c.requires.counted, c.loop-place-test.true) in
    let apart : nat_eq s.end.process r.end.process ≡ false = ne_eqb s.end.process r.end.process (λ same. c.if-receivers-place.false (sym (same ∙ ap (λ (x : Receiver). x.end.process) c.index-receivers-place.is))) in
    subst (λ (pairs : List Pair). IsWalking s c.args.number all c.args.pairs.now.items pairs c.index-link.result.now.next) (sym c.in_ok-push.ensures.items)
    (takes_one s c.args.number all c.args.pairs.now.items c.loop-place.pairs.items place r at c.loop-place.invariant c.index-link.result.now.next apart
    (ap (λ (l : Link). l.next) (link_at all c.args.chains.now place r c.index-link.result.now c.requires at room c.index-link.ensures)))
