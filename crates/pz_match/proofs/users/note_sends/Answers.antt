-- One offer more.
use Rattle.std.proofs.Common.{subst, arith}
use Rattle.std.specs.Prelude.{All}
use Rattle.std.proofs.lemmas.List.{take_all}
use Rattle.pz_offer.specs.declared.ends.SendOffer.{SendOffer}
use Rattle.pz_match.proofs.Noting.{noted, noted_more, keeps_next}
use Rattle.pz_match.proofs.users.note_sends.Goals as goal

pub loop-send-preserved : goal.loop-send-preserved
loop-send-preserved c =
    let inv = c.loop-send.invariant in
    record {
      keeps = keeps_next c.args.users.now c.loop-send.users c.note.new.users inv.keeps c.note.ensures.keeps;
      noted = noted_more (λ (x : SendOffer). x.wire) c.args.process c.loop-send.users c.note.new.users c.args.sends.now c.loop-send.send-index c.send-item.result c.note.ensures.keeps c.loop-send-test.true c.send-item.is c.in_ok-note.ensures.noted inv.noted;
    }

pub returns-clause-noted : goal.returns-clause-noted
returns-clause-noted c =
    subst (All (noted (λ (x : SendOffer). x.wire) c.args.process c.loop-send.users)) (take_all c.loop-send.send-index c.args.sends.now (omega (arith, c.loop-send-test.false))) c.loop-send.invariant.noted
