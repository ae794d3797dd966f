-- The answers of `back` other than Ok, by cases.
use Rattle.std.specs.Prelude.{ℕ}
use Rattle.pz_debug_session.specs.declared.refusal.BackError.{BackError}
use Rattle.pz_debug_session.specs.declared.refusal.BackError.TheVariants as back

abbrev pub OnTooFar : (ℕ → Type 0) → BackError → Type 0
OnTooFar P back.NoMemory = Unit {0}
OnTooFar P (back.TooFar steps) = P steps
