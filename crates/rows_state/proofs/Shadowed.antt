-- What is known of a state stays known through its changes.
use Rattle.std.proofs.Common.{◌≡◌, ◌≢◌, ℕ, ◌<◌, Bool, true, false, nat_eq, nat_lt, List, [], ◌∷◌, length, slice_set, Option, Some, None, IsSome, unwrap_or, refl, ap, sym, ◌∙◌, arith, rules}
use Rattle.std.specs.Option.{option_map}
use Rattle.std.specs.Prelude.{Result, Ok, Err, IfOk, OnErr}
use Rattle.std.proofs.lemmas.List.{length-set, length-replicate}
use Rattle.pz_copy.specs.pz_value.declared.value.Value.{Value}
use Rattle.pz_copy.specs.pz_state.States.{StateView, Frames, IsLeastFree, nils, locals_in, at_frame, with_frame, set_variable, set_local, opened, closed}
use Rattle.pz_copy.proofs.pz_state_proofs.FrameTables.{locals_in-with_frame}
use Rattle.pz_copy.specs.pz_state.Marks.{Seen, changed}
use Rattle.pz_copy.specs.pz_state.declared.state.FrameId.{FrameId}
use Rattle.rows_state.specs.declared.subject.Frame.{Frame}
use Rattle.rows_state.specs.declared.subject.Saved.{Saved}
use Rattle.rows_state.specs.devices.Shadows.{IsKnown, AreSaved}

abbrev pub size_of : Frames → ℕ → Option ℕ
size_of fs k = option_map length (locals_in fs k)

pub has_frame : (o : Option (List Value)) (n : ℕ) → option_map length o ≡ Some n → IsSome o
has_frame None n e = absurd cc
has_frame (Some values) n e = refl

pub has_local : (o : Option (List Value)) (n slot : ℕ) → option_map length o ≡ Some n → slot < n → slot < length (unwrap_or o [])
has_local None n slot e lt = absurd cc
has_local (Some values) n slot e lt = let same : length values ≡ n = cc in omega arith

-- a frame of another number, opened beside

beside : (k m : ℕ) (values : List Value) (f : ℕ × List Value) (fs : Frames) → m ≢ k → locals_in (with_frame k values fs) m ≡ locals_in fs m → (b c : Bool) → nat_lt k f.0 ≡ b → nat_eq f.0 m ≡ c
    → locals_in (with_frame k values (f ∷ fs)) m ≡ locals_in (f ∷ fs) m
beside k m values f fs ne ih true c lt eq = let other : nat_eq k m ≡ false = search rules in rw (lt, other) refl
beside k m values f fs ne ih false true ge eq = rw (ge, eq) refl
beside k m values f fs ne ih false false ge eq = rw (ge, eq) ih

stays_beside : (k m : ℕ) (values : List Value) (fs : Frames) → m ≢ k → locals_in (with_frame k values fs) m ≡ locals_in fs m
stays_beside k m values [] ne = let other : nat_eq k m ≡ false = search rules in rw other refl
stays_beside k m values (f ∷ fs) ne = beside k m values f fs ne (stays_beside k m values fs ne) (nat_lt k f.0) (nat_eq f.0 m) refl refl

free_is_other : (fs : Frames) (k m n : ℕ) → locals_in fs k ≡ None → size_of fs m ≡ Some n → m ≢ k
free_is_other fs k m n free there e = let none : size_of fs m ≡ None = ap (λ (i : ℕ). size_of fs i) e ∙ ap (λ (o : Option (List Value)). option_map length o) free in not_both (sym there ∙ none)
  where
    not_both : Some n ≡ None → ⊥
    not_both q = cc

pub known_opened : {variables : ℕ} {frame : Option Frame} {s : StateView} (k count : ℕ) → IsKnown variables frame s → locals_in s.frames k ≡ None → IsKnown variables frame (opened s k count)
known_opened {variables} {frame} {s} k count known free = record {
  vars = known.vars;
  named = λ f e. ap (λ (o : Option (List Value)). option_map length o) (stays_beside k f.id.0 (nils count) s.frames (free_is_other s.frames k f.id.0 f.locals free (known.named f e))) ∙ known.named f e;
}

pub known_entered : {variables : ℕ} {frame : Option Frame} {s : StateView} (id : FrameId) (count : ℕ) → IsKnown variables frame s → locals_in s.frames id.0 ≡ None → IsKnown variables (Some (record { id = id; locals = count })) (opened s id.0 count)
known_entered {variables} {frame} {s} id count known free = record { vars = known.vars; named = λ f e. by f cc }
  where
    by : (f : Frame) → f ≡ record { id = id; locals = count } → size_of (opened s id.0 count).frames f.id.0 ≡ Some f.locals
    by f e = rw e (ap (λ (o : Option (List Value)). option_map length o) (locals_in-with_frame id.0 (nils count) s.frames free) ∙ ap (λ (n : ℕ). Some n) (length-replicate count _))

pub after_open : {E : Type 0} {variables : ℕ} {frame : Option Frame} (saved : List Saved) (old new : Seen) (count : ℕ) (result : Result FrameId E) → IfOk result (λ f. IsLeastFree old.held.frames f.0)
    → IfOk result (λ f. new ≡ changed old (opened old.held f.0 count)) → OnErr result (new ≡ old) → IsKnown variables frame old.held → AreSaved variables saved old.marks → IsKnown variables frame new.held × AreSaved variables saved new.marks
after_open saved old new count (Ok f) least ok err known same = rw ok (known_opened f.0 count known least.free, same)
after_open saved old new count (Err e) least ok err known same = rw err (known, same)

-- a local of a frame, set

same_size : (k slot m : ℕ) (value : Value) (f : ℕ × List Value) (fs : Frames) → size_of (at_frame k (λ values. slice_set values slot value) fs) m ≡ size_of fs m → (b c : Bool) → nat_eq f.0 k ≡ b → nat_eq f.0 m ≡ c
    → size_of (at_frame k (λ values. slice_set values slot value) (f ∷ fs)) m ≡ size_of (f ∷ fs) m
same_size k slot m value f fs ih true true at here = rw (at, here) (ap (λ (n : ℕ). Some n) (length-set f.1 slot value))
same_size k slot m value f fs ih true false at here = rw (at, here) refl
same_size k slot m value f fs ih false true at here = rw (at, here) refl
same_size k slot m value f fs ih false false at here = rw (at, here) ih

keeps_size : (k slot m : ℕ) (value : Value) (fs : Frames) → size_of (at_frame k (λ values. slice_set values slot value) fs) m ≡ size_of fs m
keeps_size k slot m value [] = refl
keeps_size k slot m value (f ∷ fs) = same_size k slot m value f fs (keeps_size k slot m value fs) (nat_eq f.0 k) (nat_eq f.0 m) refl refl

pub known_local : {variables : ℕ} {frame : Option Frame} {s : StateView} (k slot : ℕ) (value : Value) → IsKnown variables frame s → IsKnown variables frame (set_local s k slot value)
known_local {variables} {frame} {s} k slot value known = record { vars = known.vars; named = λ f e. keeps_size k slot f.id.0 value s.frames ∙ known.named f e }

pub known_variable : {variables : ℕ} {frame : Option Frame} {s : StateView} (slot : ℕ) (value : Value) → IsKnown variables frame s → IsKnown variables frame (set_variable s slot value)
known_variable slot value known = record { vars = rw length-set known.vars; named = known.named }

pub known_closed : {variables : ℕ} {frame : Option Frame} {s : StateView} (k : ℕ) → IsKnown variables frame s → IsKnown variables None (closed s k)
known_closed k known = record { vars = known.vars; named = λ f e. absurd cc }
