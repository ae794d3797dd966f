use Rattle.std.proofs.Common.{◌≡◌, ◌<◌, ◌^◌, ◌+◌, ◌*◌, ℕ, suc, take, get_or, length, List, ◌∷◌, ◌++◌, [], sym, ap, subst, ◌∙◌, arith}
use Rattle.std.specs.Char.{digit_value}
use Rattle.std.specs.Str.Parse.{AllDigits, digits_value}
use Rattle.std.specs.Fmt.{decimal}
use Rattle.std.proofs.lemmas.List.{take_all}
use Rattle.std.proofs.lemmas.Bool.{eqb-true, eq-eqb, false≢true}
use Rattle.std.proofs.Math.Seq.{take-suc}
use Rattle.pz_trace.proofs.Numerals.{value_push, digits_push, decimal_of, digits_some, no_leading_zero, front_of}
use Rattle.pz_trace.proofs.headings.value_of.Goals as goal
use Rattle.pz_trace.proofs.headings.value_of.Goals.{else-first-eq48-via-then-first-eq48+else-not-is_empty, else-first-eq48-via-else-first-eq48}

pub returns-in_err-first : goal.returns-in_err-first
returns-in_err-first c = rw c.from_residual.ensures (λ n small is. digits_some n c.args.digits.now is c.in_err-first.ensures.cases)

pub returns-then-not-is_empty : goal.returns-then-not-is_empty
returns-then-not-is_empty c = λ n small is.
    let text = c.in_ok-first.ensures.cases.0 in
    let alone = no_leading_zero n c.args.digits.now small is (ap (λ (l : List ℕ). get_or l 0 0) text ∙ c.if-first-eq48.true) in
    let none : length c.in_ok-first.rest.now ≡ 0 = omega (arith, alone, c.in_ok-first.ensures.cases.1) in
    false≢true (c.if-not-is_empty.ensures ∙ eq-eqb (length c.in_ok-first.rest.now) 0 none)

pub returns-in_err-value : goal.returns-in_err-value
returns-in_err-value c = rw c.from_residual-in_err-value.ensures (λ n small is.
    let x = front_of n c.args.digits.now c.loop-digit.digit-index small is c.loop-digit-test.true in
    let fits : c.loop-digit.value * 10 + digit_value (get_or c.args.digits.now c.loop-digit.digit-index 0) < 2 ^ 128 = omega (arith, small, x.value, c.loop-digit.invariant.1) in
    c.in_err-value.ensures (x.digit, fits))

pub loop-digit-preserved : goal.loop-digit-preserved
loop-digit-preserved c =
    let text = c.args.digits.now in
    let i = c.loop-digit.digit-index in
    let d = get_or text i 0 in
    let same : suc i ≡ i + 1 = omega arith in
    let front : take i text ++ (d ∷ []) ≡ take (i + 1) text = sym (take-suc text i 0 c.loop-digit-test.true) ∙ ap (λ (j : ℕ). take j text) same in
    let is = c.in_ok-value.ensures in
    let value : c.in_ok-value.value ≡ digits_value 10 (take (i + 1) text) =
    is.1 ∙ ap (λ (v : ℕ). v * 10 + digit_value d) c.loop-digit.invariant.1 ∙ sym (value_push d (take i text)) ∙ ap (digits_value 10) front in
    (subst (AllDigits 10) front (digits_push d (take i text) c.loop-digit.invariant.0 is.0.0), value, subst (λ (v : ℕ). v < 2 ^ 128) (sym is.1) is.0.1)

pub returns : goal.returns
returns c =
    let text = c.args.digits.now in
    let all = take_all c.loop-digit.digit-index text c.loop-digit-test.false in
    let value : c.loop-digit.value ≡ digits_value 10 text = c.loop-digit.invariant.1 ∙ ap (digits_value 10) all in
    let lead : get_or text 0 0 ≡ 48 → length text ≡ 1 = λ leads. elim c.else-first-eq48.branch [
      | else-first-eq48-via-then-first-eq48+else-not-is_empty w ↦ omega (arith, eqb-true (length c.in_ok-first.rest.now) 0 (sym w.if-not-is_empty.ensures), c.in_ok-first.ensures.cases.1)
      | else-first-eq48-via-else-first-eq48 w ↦ absurd (w.if-first-eq48.false (sym (ap (λ (l : List ℕ). get_or l 0 0) c.in_ok-first.ensures.cases.0) ∙ leads))
    ] in
    (c.loop-digit.invariant.2, decimal_of text (subst (AllDigits 10) all c.loop-digit.invariant.0) (omega (arith, c.in_ok-first.ensures.cases.1)) lead (omega (arith, value, c.loop-digit.invariant.2)) ∙ ap decimal (sym value))
