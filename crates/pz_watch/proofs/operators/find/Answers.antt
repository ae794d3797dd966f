use Rattle.std.proofs.Common.{◌≡◌, ◌∙◌, sym, arith, true, false}
use Rattle.std.specs.Prelude.{bytes_eq}
use Rattle.pz_watch.proofs.Spelled.{spelled_at, spelled_later, spelled_nowhere}
use Rattle.pz_watch.proofs.operators.find.Goals as goal

pub loop-spelling-preserved : goal.loop-spelling-preserved
loop-spelling-preserved g c =
    let apart : bytes_eq c.loop-spelling-item.result.0.now c.args.text.now ≡ false = rw (← c.as_bytes.ensures.value) (sym c.if-eq.ensures) in
    sym (spelled_later c.args.table.now c.args.text.now c.loop-spelling.spelling-index c.loop-spelling-item.result c.loop-spelling-test.true c.loop-spelling-item.is apart) ∙ c.loop-spelling.invariant

pub returns-then-eq : goal.returns-then-eq
returns-then-eq g c =
    let same : bytes_eq c.loop-spelling-item.result.0.now c.args.text.now ≡ true = rw (← c.as_bytes.ensures.value) (sym c.if-eq.ensures) in
    sym (spelled_at c.args.table.now c.args.text.now c.loop-spelling.spelling-index c.loop-spelling-item.result c.loop-spelling-test.true c.loop-spelling-item.is same) ∙ c.loop-spelling.invariant

pub returns : goal.returns
returns g c = sym (spelled_nowhere c.args.table.now c.args.text.now c.loop-spelling.spelling-index (omega (arith, c.loop-spelling-test.false))) ∙ c.loop-spelling.invariant
