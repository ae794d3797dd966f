use Rattle.std.proofs.Common.{sym, ◌∙◌, arith}
use Rattle.pz_debug_replies.proofs.Searched.{not_yet, same_text, other_text}
use Rattle.pz_debug_replies.proofs.names.find_process.Goals as goal

pub loop-process-init : goal.loop-process-init
loop-process-init c = λ m is j below same. absurd (omega (arith, below))

pub returns-then-is_same-clause-found : goal.returns-then-is_same-clause-found
returns-then-is_same-clause-found c = λ m is. record {
  there = omega (arith, c.loop-process-test.true, c.process_count-process-end.ensures.counted m is);
  is_path = sym (c.path.ensures m is) ∙ same_text c.path.result.now c.args.word.now c.is_same.result c.is_same.ensures c.if-is_same.true;
  first = c.loop-process.invariant m is;
}

pub loop-process-preserved : goal.loop-process-preserved
loop-process-preserved c = λ m is.
    not_yet m c.args.word.now c.loop-process.process (c.loop-process.invariant m is) (λ same. other_text c.path.result.now c.args.word.now c.is_same.result c.is_same.ensures c.if-is_same.false (c.path.ensures m is ∙ same))

pub returns-clause-found : goal.returns-clause-found
returns-clause-found c = λ m is j below same. c.loop-process.invariant m is j (omega (arith, below, c.loop-process-test.false, c.process_count-process-end.ensures.counted m is)) same
