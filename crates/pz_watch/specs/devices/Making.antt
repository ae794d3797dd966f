-- Formulas read from the front of their words, operator by operator.
use Rattle.std.specs.Prelude.{◌≡◌, ℕ, zero, suc, Some, None, Result, Ok, Err}
use Rattle.pz_lines.specs.Words.{Words}
use Rattle.pz_watch.specs.declared.operators.One.{One}
use Rattle.pz_watch.specs.declared.operators.One.TheVariants as one
use Rattle.pz_watch.specs.declared.operators.Two.{Two}
use Rattle.pz_watch.specs.declared.operators.Two.TheVariants as two
use Rattle.pz_watch.specs.declared.operators.Operator.{Operator}
use Rattle.pz_watch.specs.declared.operators.Operator.TheVariants as operator
use Rattle.pz_watch.specs.declared.monitor.Monitor.{Monitor}
use Rattle.pz_watch.specs.declared.errors.ReadWatchError.{ReadWatchError}
use Rattle.pz_watch.specs.Formulas.{Formula, line, negation, both, either, before, once, always, since}
use Rattle.pz_watch.specs.devices.Operators.{Read, operator_in}
use Rattle.pz_watch.specs.devices.Standing.{IsFresh}

abbrev pub make_one : One → Formula → Formula
make_one one.Not f = negation f
make_one one.Before f = before f
make_one (one.Once b) f = once b f
make_one (one.Always b) f = always b f

abbrev pub make_two : Two → Formula → Formula → Formula
make_two two.And f g = both f g
make_two two.Or f g = either f g
make_two (two.Since b) f g = since b f g

abbrev pub then_one : (Formula → Formula) → Read Formula → Read Formula
then_one make None = None
then_one make (Some p) = Some (make p.0, p.1)

abbrev pub then_two : (Formula → Formula → Formula) → (Words → Read Formula) → Read Formula → Read Formula
then_two make next None = None
then_two make next (Some p) = then_one (make p.0) (next p.1)

abbrev pub of_operator : (Words → Read Formula) → Operator → Words → Read Formula
of_operator next (operator.Line atom) ws = Some (line atom, ws)
of_operator next (operator.One o) ws = then_one (make_one o) (next ws)
of_operator next (operator.Two o) ws = then_two (make_two o) next (next ws)

abbrev pub by_operator : (Words → Read Formula) → Read Operator → Read Formula
by_operator next None = None
by_operator next (Some p) = of_operator next p.0 p.1

-- a formula that is made of at most n operators, one inside the other
unfoldable pub read : ℕ → Words → Read Formula
read zero ws = None
read (suc n) ws = by_operator (read n) (operator_in ws)

-- the monitor is fresh for the formula that was read, and these words are left
abbrev pub ReadsAs : Read Formula → Monitor → Words → Type 0
ReadsAs found monitor rest = (f : Formula) × ((found ≡ Some (f, rest)) × IsFresh monitor f)

-- the monitor is made of the first and of a second one, which was read
abbrev pub IsMadeWith : (Formula → Formula → Formula) → Monitor → Result Monitor ReadWatchError → Monitor → Type 0
IsMadeWith make first (Ok second) monitor = (f g : Formula) → IsFresh first f → IsFresh second g → IsFresh monitor (make f g)
IsMadeWith make first (Err error) monitor = ⊥
