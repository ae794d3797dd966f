-- One offer more.
use Rattle.std.proofs.Common.{subst, arith}
use Rattle.std.specs.Prelude.{All}
use Rattle.std.proofs.lemmas.List.{take_all}
use Rattle.pz_offer.specs.declared.ends.ReceiveOffer.{ReceiveOffer}
use Rattle.pz_match.proofs.Noting.{noted, noted_more, keeps_next}
use Rattle.pz_match.proofs.users.note_receives.Goals as goal

pub loop-receive-preserved : goal.loop-receive-preserved
loop-receive-preserved c =
    let inv = c.loop-receive.invariant in
    record {
      keeps = keeps_next c.args.users.now c.loop-receive.users c.note.new.users inv.keeps c.note.ensures.keeps;
      noted = noted_more (λ (x : ReceiveOffer). x.wire) c.args.process c.loop-receive.users c.note.new.users c.args.receives.now c.loop-receive.receive-index c.receive-item.result c.note.ensures.keeps c.loop-receive-test.true c.receive-item.is c.in_ok-note.ensures.noted inv.noted;
    }

pub returns-clause-noted : goal.returns-clause-noted
returns-clause-noted c =
    subst (All (noted (λ (x : ReceiveOffer). x.wire) c.args.process c.loop-receive.users)) (take_all c.loop-receive.receive-index c.args.receives.now (omega (arith, c.loop-receive-test.false))) c.loop-receive.invariant.noted
