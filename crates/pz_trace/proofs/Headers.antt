-- Headers of traces.
use Rattle.std.proofs.Common.{◌≡◌, ◌<◌, ◌^◌, ◌+◌, refl, sym, ap, ◌∙◌, ℕ, List, [], ◌++◌, codes, length, get_or, drop, take, suc, Option, Some, None, arith, length-drop}
use Rattle.std.specs.Prelude.{MatchOption}
use Rattle.std.specs.Fmt.{digits, decimal}
use Rattle.pz_trace.specs.declared.forms.Form.{Form}
use Rattle.pz_trace.specs.declared.forms.Form.TheVariants.{One, Two, Three}
use Rattle.pz_trace.specs.Lines.{newline, header}
use Rattle.pz_trace.specs.Forms.{AreUnits, IsForm}
use Rattle.pz_trace.specs.Laws.{HeadersDiffer, FormsAreKept}
use Rattle.pz_trace.specs.devices.Reading.{StandsFirst}
use Rattle.pz_trace.proofs.Digits.{cut_once, cancel, decimal_lacks}
use Rattle.pz_trace.proofs.Numerals.{decimal_once, no_leading_zero}

-- the first digit
abbrev digit_of : Form → ℕ
digit_of One = 49
digit_of Two = 50
digit_of (Three units) = 51

digit_is : (f : Form) → get_or (header f) 12 0 ≡ digit_of f
digit_is One = refl
digit_is Two = refl
digit_is (Three units) = refl

same_digit : (f g : Form) → header f ≡ header g → digit_of f ≡ digit_of g
same_digit f g e = sym (digit_is f) ∙ ap (λ (l : List ℕ). get_or l 12 0) e ∙ digit_is g

-- what goes on behind its first LF tells no units
pub told_ends : (told : List ℕ) (i u : ℕ) → StandsFirst 10 told i → i + 1 < length told → told ≡ decimal u ++ newline → ⊥
told_ends told i u x more is =
    let same = cut_once 10 (take i told) (drop (suc i) told) (decimal u) [] x.before (decimal_lacks 10 u (omega arith)) (sym x.splits ∙ is) in
    omega (arith, more, length-drop (suc i) told, ap (λ (l : List ℕ). length l) same.same_rest)

-- what tells units behind the front of a header tells them in the header
pub told_behind : (r : Option ℕ) (line told : List ℕ) → line ≡ codes "poosl-trace 3 " ++ told
    → MatchOption r ((u : ℕ) → AreUnits u → told ≡ decimal u ++ newline → ⊥) (λ u. AreUnits u × (told ≡ decimal u ++ newline))
    → MatchOption r ((u : ℕ) → AreUnits u → line ≡ header (Three u) → ⊥) (λ u. AreUnits u × (line ≡ header (Three u)))
told_behind None line told at other = λ u are is. other u are (cancel (codes "poosl-trace 3 ") told (decimal u ++ newline) (sym at ∙ is))
told_behind (Some u) line told at tells = (tells.0, at ∙ ap (λ (l : List ℕ). codes "poosl-trace 3 " ++ l) tells.1)

pub same_units : (u v : ℕ) → u < 2 ^ 64 → v < 2 ^ 64 → decimal u ++ newline ≡ decimal v ++ newline → u ≡ v
same_units u v small less e =
    decimal_once u v (omega arith) (omega arith) (cut_once 10 (decimal u) [] (decimal v) [] (decimal_lacks 10 u (omega arith)) (decimal_lacks 10 v (omega arith)) e).same_line

pub headers_differ : HeadersDiffer
headers_differ One One _ _ e = refl
headers_differ Two Two _ _ e = refl
headers_differ (Three u) (Three v) small less e = ap Three (same_units u v small less (cancel (codes "poosl-trace 3 ") (decimal u ++ newline) (decimal v ++ newline) e))
headers_differ One Two _ _ e = absurd (omega (arith, same_digit One Two e))
headers_differ One (Three v) _ _ e = absurd (omega (arith, same_digit One (Three v) e))
headers_differ Two One _ _ e = absurd (omega (arith, same_digit Two One e))
headers_differ Two (Three v) _ _ e = absurd (omega (arith, same_digit Two (Three v) e))
headers_differ (Three u) One _ _ e = absurd (omega (arith, same_digit (Three u) One e))
headers_differ (Three u) Two _ _ e = absurd (omega (arith, same_digit (Three u) Two e))

pub forms_are_kept : FormsAreKept
forms_are_kept One units = refl
forms_are_kept Two units = refl
forms_are_kept (Three told) units = refl

-- a line that is the header of none of the three is none
pub no_header : (line : List ℕ) → (line ≡ header One → ⊥) → (line ≡ header Two → ⊥) → ((u : ℕ) → AreUnits u → line ≡ header (Three u) → ⊥) → (f : Form) → IsForm f → line ≡ header f → ⊥
no_header line one two three One is e = one e
no_header line one two three Two is e = two e
no_header line one two three (Three u) is e = three u is e

-- no header: units without a leading zero, from 1 to 1,000,000,000, and LF behind them

told_as : (f : Form) (text : List ℕ) → IsForm f → header f ≡ codes "poosl-trace 3 " ++ (text ++ newline) → (u : ℕ) × AreUnits u × (decimal u ++ newline ≡ text ++ newline)
told_as One text is e = absurd (omega (arith, ap (λ (l : List ℕ). get_or l 12 0) e))
told_as Two text is e = absurd (omega (arith, ap (λ (l : List ℕ). get_or l 12 0) e))
told_as (Three u) text is e = (u, is, cancel (codes "poosl-trace 3 ") (decimal u ++ newline) (text ++ newline) e)

no_units : (f : Form) → IsForm f → header f ≡ codes "poosl-trace 3 0\n" → ⊥
unfolding digits
no_units f is e =
    let x = told_as f (decimal 0) is e in
    omega (arith, x.1.0, same_units x.0 0 (omega (arith, x.1.1)) (omega arith) x.2)

too_many_units : (f : Form) → IsForm f → header f ≡ codes "poosl-trace 3 1000000001\n" → ⊥
unfolding digits
too_many_units f is e =
    let x = told_as f (decimal 1000000001) is e in
    omega (arith, x.1.1, same_units x.0 1000000001 (omega (arith, x.1.1)) (omega arith) x.2)

leading_zero : (f : Form) → IsForm f → header f ≡ codes "poosl-trace 3 01\n" → ⊥
leading_zero f is e =
    let x = told_as f (codes "01") is e in
    let same = (cut_once 10 (decimal x.0) [] (codes "01") [] (decimal_lacks 10 x.0 (omega arith)) refl x.2).same_line in
    omega (arith, no_leading_zero x.0 (codes "01") (omega (arith, x.1.1)) (sym same) refl)

most_units : header (Three 1000000000) ≡ codes "poosl-trace 3 1000000000\n"
unfolding digits
most_units = refl
