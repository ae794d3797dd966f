use Rattle.std.proofs.Common.{◌≡◌, sym, ◌∙◌, arith}
use Rattle.pz_trace.proofs.Numerals.{decimal_once}
use Rattle.pz_trace.proofs.forms.units_of.Goals as goal
use Rattle.pz_trace.proofs.forms.units_of.Goals.{else-units-ge1-via-then-units-ge1+else-units-le-MOST_UNITS, else-units-ge1-via-else-units-ge1}

pub returns-else-units-ge1 : goal.returns-else-units-ge1
returns-else-units-ge1 c = λ units are is.
    let same : units ≡ c.in_ok-units.units = decimal_once units c.in_ok-units.units (omega (arith, are.1)) (omega (arith, c.in_ok-units.ensures.0)) (sym is ∙ c.in_ok-units.ensures.1) in
    let told : c.in-Ok.units ≡ c.in_ok-units.units = c.in-Ok.ensures.1 in
    elim c.else-units-ge1.branch [
      | else-units-ge1-via-then-units-ge1+else-units-le-MOST_UNITS w ↦ omega (arith, same, told, are.1, w.if-units-le-MOST_UNITS.false)
      | else-units-ge1-via-else-units-ge1 w ↦ omega (arith, same, told, are.0, w.if-units-ge1.false)
    ]

pub returns-in-Err : goal.returns-in-Err
returns-in-Err c = λ units are is.
    let same : units ≡ c.in_ok-units.units = decimal_once units c.in_ok-units.units (omega (arith, are.1)) (omega (arith, c.in_ok-units.ensures.0)) (sym is ∙ c.in_ok-units.ensures.1) in
    c.in-Err.ensures (omega (arith, same, are.1))
