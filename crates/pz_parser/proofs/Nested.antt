-- What nests less deep than a bound, in lists and where it may be left out.
use Rattle.std.proofs.Common.{ℕ, ◌<◌, List, [], ◌∷◌, Option, Some, None, arith}
use Rattle.pz_syntax.specs.ModelForm.{Each, IfWritten}
use Rattle.pz_syntax.specs.ModelNesting.{greatest, optional_nesting}

module _ {A : Type 0} (P : A → Type 0) (nesting_of : A → ℕ) (bound : ℕ) where
  abbrev pub Within : A → Type 0
  Within x = P x × (nesting_of x < bound)

  pub of_each : (xs : List A) → 0 < bound → Each Within xs → Each P xs × (greatest nesting_of xs < bound)
  of_each [] lt f = (tt, lt)
  of_each (x ∷ xs) lt f = let r = of_each xs lt f.1 in ((f.0.0, r.0), omega (arith, f.0.1, r.1))

  pub to_each : (xs : List A) → Each P xs → greatest nesting_of xs < bound → Each Within xs
  to_each [] p lt = tt
  to_each (x ∷ xs) p lt = ((p.0, omega (arith, lt)), to_each xs p.1 (omega (arith, lt)))

  pub of_written : (o : Option (List A)) → 0 < bound → IfWritten (Each Within) o → IfWritten (Each P) o × (optional_nesting (greatest nesting_of) o < bound)
  of_written None lt f = (tt, lt)
  of_written (Some xs) lt f = of_each xs lt f

  pub to_written : (o : Option (List A)) → IfWritten (Each P) o → optional_nesting (greatest nesting_of) o < bound → IfWritten (Each Within) o
  to_written None p lt = tt
  to_written (Some xs) p lt = to_each xs p lt

  pub of_optional : (o : Option A) → 0 < bound → IfWritten Within o → IfWritten P o × (optional_nesting nesting_of o < bound)
  of_optional None lt f = (tt, lt)
  of_optional (Some x) lt f = f

  pub to_optional : (o : Option A) → IfWritten P o → optional_nesting nesting_of o < bound → IfWritten Within o
  to_optional None p lt = tt
  to_optional (Some x) p lt = (p, lt)
