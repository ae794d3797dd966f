use Rattle.std.proofs.Common.{◌≡◌, ◌∙◌, sym, arith, true, false}
use Rattle.std.specs.Prelude.{bytes_eq}
use Rattle.pz_prims.proofs.Found.{beside_at, beside_later, beside_nowhere}
use Rattle.pz_prims.proofs.spellings.find.Goals as goal

pub loop-spelling-preserved : goal.loop-spelling-preserved
loop-spelling-preserved g c =
    let apart : bytes_eq c.args.selector.now c.loop-spelling-item.result.0.now ≡ false = rw (← c.as_bytes.ensures.value) (sym c.if-eq.ensures) in
    sym (beside_later c.args.table.now c.args.selector.now c.loop-spelling.spelling-index c.loop-spelling-item.result c.loop-spelling-test.true c.loop-spelling-item.is apart) ∙ c.loop-spelling.invariant

pub returns-then-eq : goal.returns-then-eq
returns-then-eq g c =
    let same : bytes_eq c.args.selector.now c.loop-spelling-item.result.0.now ≡ true = rw (← c.as_bytes.ensures.value) (sym c.if-eq.ensures) in
    sym (beside_at c.args.table.now c.args.selector.now c.loop-spelling.spelling-index c.loop-spelling-item.result c.loop-spelling-test.true c.loop-spelling-item.is same) ∙ c.loop-spelling.invariant

pub returns : goal.returns
returns g c = sym (beside_nowhere c.args.table.now c.args.selector.now c.loop-spelling.spelling-index (omega (arith, c.loop-spelling-test.false))) ∙ c.loop-spelling.invariant
