-- The operator that stands first decides.
use Rattle.std.proofs.Common.{◌≡◌, ◌<◌, None, arith}
use Rattle.pz_lines.proofs.HandedOn.{error_on}
use Rattle.pz_watch.specs.declared.errors.ReadWatchError.TheVariants.{Malformed}
use Rattle.pz_watch.specs.declared.operators.Operator.TheVariants as operator
use Rattle.pz_watch.specs.devices.Making.{read}
use Rattle.pz_watch.proofs.FormulaWords.{read_none}
use Rattle.pz_watch.proofs.Makings.{at_operator, no_operator, line_read, no_part, one_read, no_first, joined, not_joined}
use Rattle.pz_watch.proofs.formulas.+formula.Goals as goal

pub returns-then-most-eq0-clause-malformed : goal.returns-then-most-eq0-clause-malformed
returns-then-most-eq0-clause-malformed t c = λ is. read_none c.args.most c.args.words.now c.if-most-eq0.true

pub returns-in_err-atom-clause-malformed : goal.returns-in_err-atom-clause-malformed
returns-in_err-atom-clause-malformed t c =
    let some : 0 < c.args.most = omega (arith, c.if-most-eq0.false) in
    error_on
    (λ e. e ≡ Malformed → read c.args.most c.args.words.now ≡ None)
    c.from_residual.result
    c.in_err-atom.field-0.0
    c.from_residual.ensures.1
    (λ is. no_operator c.args.most c.args.words.now some (c.in_err-atom.ensures.malformed is))

pub returns-in_err-part-in-One-clause-malformed : goal.returns-in_err-part-in-One-clause-malformed
returns-in_err-part-in-One-clause-malformed t c =
    let some : 0 < c.args.most = omega (arith, c.if-most-eq0.false) in
    let mid = c.next_operator.new.words in
    let at = at_operator c.args.words.now mid c.in_ok-atom.field-0 (operator.One c.in-One.one) c.in_ok-atom.ensures.found c.in-One.is in
    error_on
    (λ e. e ≡ Malformed → read c.args.most c.args.words.now ≡ None)
    c.from_residual-in_err-part-in-One.result
    c.in_err-part-in-One.field-0.0
    c.from_residual-in_err-part-in-One.ensures.1
    (λ is. no_part c.args.most c.args.words.now some c.in-One.one mid at (c.in_err-part-in-One.ensures.malformed is))

pub returns-in_err-first-in-Two-clause-malformed : goal.returns-in_err-first-in-Two-clause-malformed
returns-in_err-first-in-Two-clause-malformed t c =
    let some : 0 < c.args.most = omega (arith, c.if-most-eq0.false) in
    let mid = c.next_operator.new.words in
    let at = at_operator c.args.words.now mid c.in_ok-atom.field-0 (operator.Two c.in-Two.two) c.in_ok-atom.ensures.found c.in-Two.is in
    error_on
    (λ e. e ≡ Malformed → read c.args.most c.args.words.now ≡ None)
    c.from_residual-in_err-first-in-Two.result
    c.in_err-first-in-Two.field-0.0
    c.from_residual-in_err-first-in-Two.ensures.1
    (λ is. no_first c.args.most c.args.words.now some c.in-Two.two mid at (c.in_err-first-in-Two.ensures.malformed is))

pub returns-in-Line-clause-found : goal.returns-in-Line-clause-found
returns-in-Line-clause-found t c =
    let some : 0 < c.args.most = omega (arith, c.if-most-eq0.false) in
    let mid = c.next_operator.new.words in
    let at = at_operator c.args.words.now mid c.in_ok-atom.field-0 (operator.Line c.in-Line.atom) c.in_ok-atom.ensures.found c.in-Line.is in
    line_read c.args.most c.args.words.now some c.in-Line.atom mid c.line.result at c.line.ensures

pub returns-in_ok-over-in-One-clause-found : goal.returns-in_ok-over-in-One-clause-found
returns-in_ok-over-in-One-clause-found t c =
    let some : 0 < c.args.most = omega (arith, c.if-most-eq0.false) in
    let mid = c.next_operator.new.words in
    let at = at_operator c.args.words.now mid c.in_ok-atom.field-0 (operator.One c.in-One.one) c.in_ok-atom.ensures.found c.in-One.is in
    one_read
    c.args.most
    c.args.words.now
    some
    c.in-One.one
    mid
    at
    c.in_ok-part-in-One.part
    c.in_ok-over-in-One.field-0
    c.formula.new.words
    c.in_ok-part-in-One.ensures.found
    c.in_ok-over-in-One.ensures

pub returns-in_ok-first-in-Two-clause-found : goal.returns-in_ok-first-in-Two-clause-found
returns-in_ok-first-in-Two-clause-found t c =
    let some : 0 < c.args.most = omega (arith, c.if-most-eq0.false) in
    let mid = c.next_operator.new.words in
    let at = at_operator c.args.words.now mid c.in_ok-atom.field-0 (operator.Two c.in-Two.two) c.in_ok-atom.ensures.found c.in-Two.is in
    joined
    c.args.most
    c.args.words.now
    some
    c.in-Two.two
    mid
    at
    c.in_ok-first-in-Two.first
    c.formula-in-Two.new.words
    c.formula-second.new.words
    c.in_ok-first-in-Two.ensures.found
    c.formula-second.result
    c.join.result
    c.formula-second.ensures.found
    c.join.ensures.made

pub returns-in_ok-first-in-Two-clause-malformed : goal.returns-in_ok-first-in-Two-clause-malformed
returns-in_ok-first-in-Two-clause-malformed t c =
    let some : 0 < c.args.most = omega (arith, c.if-most-eq0.false) in
    let mid = c.next_operator.new.words in
    let at = at_operator c.args.words.now mid c.in_ok-atom.field-0 (operator.Two c.in-Two.two) c.in_ok-atom.ensures.found c.in-Two.is in
    not_joined
    c.args.most
    c.args.words.now
    some
    c.in-Two.two
    mid
    at
    c.in_ok-first-in-Two.first
    c.formula-in-Two.new.words
    c.in_ok-first-in-Two.ensures.found
    c.formula-second.result
    c.join.result
    c.formula-second.ensures.malformed
    c.join.ensures.malformed
