-- One step of the reading of a formula, by the operator that stands first.
use Rattle.std.proofs.Common.{◌≡◌, ap, ◌∙◌, ℕ, ◌-◌, ◌<◌, Some, None, Result, Ok, Err, IfOk, IfErr}
use Rattle.pz_lines.specs.Words.{Words}
use Rattle.pz_watch.specs.declared.errors.ReadWatchError.{ReadWatchError}
use Rattle.pz_watch.specs.declared.errors.ReadWatchError.TheVariants.{Malformed}
use Rattle.pz_watch.specs.declared.atoms.Atom.{Atom}
use Rattle.pz_watch.specs.declared.operators.One.{One}
use Rattle.pz_watch.specs.declared.operators.Two.{Two}
use Rattle.pz_watch.specs.declared.operators.Operator.{Operator}
use Rattle.pz_watch.specs.declared.operators.Operator.TheVariants as operator
use Rattle.pz_watch.specs.declared.monitor.Monitor.{Monitor}
use Rattle.pz_watch.specs.Formulas.{Formula, line}
use Rattle.pz_watch.specs.devices.Standing.{IsFresh}
use Rattle.pz_watch.specs.devices.Operators.{Read, operator_in}
use Rattle.pz_watch.specs.devices.Making.{make_one, make_two, then_one, then_two, by_operator, read, ReadsAs, IsMadeWith}
use Rattle.pz_watch.proofs.FormulaWords.{read_more}

never : (m : Monitor) → (let r : Result Monitor ReadWatchError = Ok m in r) ≡ Err Malformed → ⊥
never m e = cc

same_error : (e : ReadWatchError) → (let r : Result Monitor ReadWatchError = Err e in r) ≡ Err Malformed → e ≡ Malformed
same_error e is = cc

-- the operator that was found, by its form
pub at_operator : (ws mid : Words) (x y : Operator) → operator_in ws ≡ Some (x, mid) → x ≡ y → operator_in ws ≡ Some (y, mid)
at_operator ws mid x y e is = e ∙ ap (λ (o : Operator). let p : Operator × Words = (o, mid) in Some p) is

module _ (n : ℕ) (ws : Words) (some : 0 < n) where
  step : (found : Read Operator) → operator_in ws ≡ found → read n ws ≡ by_operator (read (n - 1)) found
  step found e = read_more n ws some ∙ ap (λ (o : Read Operator). by_operator (read (n - 1)) o) e

  pub no_operator : operator_in ws ≡ None → read n ws ≡ None
  no_operator e = step None e

  pub line_read : (a : Atom) (rest : Words) (m : Monitor) → operator_in ws ≡ Some (operator.Line a, rest) → IsFresh m (line a) → ReadsAs (read n ws) m rest
  line_read a rest m e fresh = (line a, (step (Some (operator.Line a, rest)) e, fresh))

  module _ (o : One) (mid : Words) (e : operator_in ws ≡ Some (operator.One o, mid)) where
    pub no_part : read (n - 1) mid ≡ None → read n ws ≡ None
    no_part none = step (Some (operator.One o, mid)) e ∙ ap (λ (p : Read Formula). then_one (make_one o) p) none

    pub one_read : (part m : Monitor) (rest : Words) → ReadsAs (read (n - 1) mid) part rest → ((f : Formula) → IsFresh part f → IsFresh m (make_one o f)) → ReadsAs (read n ws) m rest
    one_read part m rest told made = (
      make_one o told.0,
      (step (Some (operator.One o, mid)) e ∙ ap (λ (p : Read Formula). then_one (make_one o) p) told.1.0, made told.0 told.1.1),
    )

  module _ (o : Two) (mid : Words) (e : operator_in ws ≡ Some (operator.Two o, mid)) where
    pub no_first : read (n - 1) mid ≡ None → read n ws ≡ None
    no_first none = step (Some (operator.Two o, mid)) e ∙ ap (λ (p : Read Formula). then_two (make_two o) (read (n - 1)) p) none

    behind_first : (first : Monitor) (next : Words) → (told : ReadsAs (read (n - 1) mid) first next) → read n ws ≡ then_one (make_two o told.0) (read (n - 1) next)
    behind_first first next told =
        step (Some (operator.Two o, mid)) e ∙ ap (λ (p : Read Formula). then_two (make_two o) (read (n - 1)) p) told.1.0

    pub no_second : (first : Monitor) (next : Words) → ReadsAs (read (n - 1) mid) first next → read (n - 1) next ≡ None → read n ws ≡ None
    no_second first next told none =
        behind_first first next told ∙ ap (λ (p : Read Formula). then_one (make_two o told.0) p) none

    pub two_read : (first second m : Monitor) (next rest : Words) → ReadsAs (read (n - 1) mid) first next → ReadsAs (read (n - 1) next) second rest → ((f g : Formula) → IsFresh first f → IsFresh second g → IsFresh m (make_two o f g)) → ReadsAs (read n ws) m rest
    two_read first second m next rest told found made = (
      make_two o told.0 found.0,
      (behind_first first next told ∙ ap (λ (p : Read Formula). then_one (make_two o told.0) p) found.1.0, made told.0 found.0 told.1.1 found.1.1),
    )

    pub joined : (first : Monitor) (next rest : Words) → ReadsAs (read (n - 1) mid) first next → (second result : Result Monitor ReadWatchError) → IfOk second (λ m. ReadsAs (read (n - 1) next) m rest) → IfOk result (λ m. IsMadeWith (make_two o) first second m) → IfOk result (λ m. ReadsAs (read n ws) m rest)
    joined first next rest told (Ok second) (Ok m) found made = two_read first second m next rest told found made
    joined first next rest told (Ok second) (Err error) found made = tt
    joined first next rest told (Err error) (Ok m) found made = absurd made
    joined first next rest told (Err error) (Err other) found made = tt

    pub not_joined : (first : Monitor) (next : Words) → ReadsAs (read (n - 1) mid) first next → (second result : Result Monitor ReadWatchError) → IfErr second (λ e. e ≡ Malformed → read (n - 1) next ≡ None) → IfErr result (λ e. e ≡ Malformed → second ≡ Err Malformed) → IfErr result (λ e. e ≡ Malformed → read n ws ≡ None)
    not_joined first next told second (Ok m) found bad = tt
    not_joined first next told (Ok second) (Err error) found bad = λ is. absurd (never second (bad is))
    not_joined first next told (Err other) (Err error) found bad = λ is. no_second first next told (found (same_error other (bad is)))
