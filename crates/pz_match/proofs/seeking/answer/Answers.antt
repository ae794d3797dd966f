-- The next row of the process, where there is one.
use Rattle.pz_match.proofs.Couples.{answer_read}
use Rattle.pz_match.proofs.seeking.answer.Goals as goal

pub returns-then-place-rows-clause-answer : goal.returns-then-place-rows-clause-answer
returns-then-place-rows-clause-answer c =
    answer_read c.args.receive.now.receiver.conditional c.args.rows.now c.args.from c.next_row-place.result c.args.process _ (c.if-not-receive.false) c.if-place-rows.true c.next_row-place.ensures.same (c.next_row-place.ensures.here c.if-place-rows.true)
