-- A value for a variable that is not there changes nothing.
use Rattle.std.proofs.Common.{◌≡◌, ℕ, zero, suc, ◌≤◌, List, [], ◌∷◌, length, nat_eq, Some, refl, sym, ap, arith}
use Rattle.std.specs.Prelude.{slice_set, unwrap_or, if◌then◌else◌, Bool, true, false}
use Rattle.pz_classes_code.specs.pz_value.declared.value.Value.{Value}
use Rattle.pz_copy.specs.pz_state.States.{StateView, Frames, locals_in, locals_of, at_frame, set_local}

pub set_past : (values : List Value) (i : ℕ) (y : Value) → length values ≤ i → slice_set values i y ≡ values
set_past [] i y past = refl
set_past (x ∷ xs) zero y past = absurd (omega arith)
set_past (x ∷ xs) (suc i) y past = ap (λ (vs : List Value). x ∷ vs) (set_past xs i y (omega arith))

no_local_in : (fs : Frames) (number i : ℕ) (y : Value) → length (locals_of fs number) ≤ i → at_frame number (λ vs. slice_set vs i y) fs ≡ fs
no_local_in [] number i y past = refl
no_local_in (f ∷ fs) number i y past = by (nat_eq f.0 number) past (no_local_in fs number i y)
  where
    by : (b : Bool) → length (unwrap_or (if b then Some f.1 else locals_in fs number) []) ≤ i → (length (locals_of fs number) ≤ i → at_frame number (λ vs. slice_set vs i y) fs ≡ fs)
        → (if b then (f.0, slice_set f.1 i y) ∷ fs else f ∷ at_frame number (λ vs. slice_set vs i y) fs) ≡ f ∷ fs
    by true past later = ap (λ (vs : List Value). (f.0, vs) ∷ fs) (set_past f.1 i y past)
    by false past later = ap (λ (gs : Frames). f ∷ gs) (later past)

pub no_local : (s : StateView) (number i : ℕ) (y : Value) → length (locals_of s.frames number) ≤ i → s ≡ set_local s number i y
no_local s number i y past = ap (λ (fs : Frames). record s { frames = fs }) (sym (no_local_in s.frames number i y past))
