-- What may be left out, and lists that may be empty.
use Rattle.std.proofs.Common.{◌≡◌, ℕ, Bool, true, false, cond, List, [], ◌∷◌, ◌++◌, Option, Some, None, Ok, refl, ap, sym}
use Rattle.pz_syntax.specs.declared.tokens.Pos.{Pos}
use Rattle.pz_syntax.specs.declared.tokens.Mark.{Mark}
use Rattle.pz_syntax.specs.Marks.{optional as optional_text}
use Rattle.pz_syntax.specs.ModelForm.{Each, IfWritten}
use Rattle.pz_parser_cursor.specs.declared.ahead.Next.{Next}
use Rattle.pz_parser_cursor.specs.devices.LookAhead.{next}
use Rattle.pz_parser_cursor.specs.devices.Input.{Tokens, marks}
use Rattle.pz_parser_cursor.specs.devices.Device.{Parser, ◌<$>◌, pure, optional, or_none}
use Rattle.pz_parser_cursor.specs.Places.{located, Placing, place_optional}
use Rattle.pz_parser_cursor.proofs.Steps.{bind_ok}
use Rattle.pz_parser_cursor.proofs.Joined.{Filled}
use Rattle.pz_parser_cursor.proofs.Reading.{Took, Sound, Complete, ok_took, done}

module _ {A : Type 0} (text : A → List Mark) (begins : Tokens → Bool) (item : Parser A) (P : A → Type 0) where
  optional_by : Sound text item P → (i : Tokens) (y : Option A × Tokens) (b : Bool) → cond b ((Some <$> item) i) (done (None, i)) ≡ Ok y → Took (optional_text text) (IfWritten P) i y
  optional_by s i y true e =
      let a = bind_ok (item i) (λ x. pure (Some x)) y e in
      let first = s.reads i a.0 a.1 in
      ok_took (Some a.0.0, a.0.1) y a.2 (record { parts = first.parts; meets = first.meets })
  optional_by s i y false e = ok_took (None, i) y e (record { parts = refl; meets = tt })

  pub optional_sound : Sound text item P → Sound (optional_text text) (optional begins item) (IfWritten P)
  optional_sound s = record { reads = λ i y e. optional_by s i y (begins i) e }

  -- it is there exactly where it begins so
  pub optional_complete : (place : Placing A) (Stop : Next → Type 0) → Complete text place item P Stop
      → ((at : ℕ → Pos) (n : ℕ) (t : A) (j : Tokens) → P t → begins (located at n (text t) ++ j) ≡ true)
      → (at : ℕ → Pos) (n : ℕ) (t : Option A) (j : Tokens) → IfWritten P t → Stop (next j) → begins j ≡ false
      → optional begins item (located at n (optional_text text t) ++ j) ≡ Ok (place_optional place at n t, j)
  optional_complete place Stop c started at n None j p h ends = rw ends refl
  optional_complete place Stop c started at n (Some t) j p h ends = rw (started at n t j p, c.gives at n t j p h) refl

module _ {A : Type 0} (text : List A → List Mark) (begins : Tokens → Bool) (items : Parser (List A)) (P : A → Type 0) (empty : text [] ≡ []) where
  filled : (xs : List A) → Filled P xs → Each P xs
  filled [] p = tt
  filled (x ∷ xs) p = p

  or_none_by : Sound text items (Filled P) → (i : Tokens) (y : List A × Tokens) (b : Bool) → cond b (items i) (done ([], i)) ≡ Ok y → Took text (Each P) i y
  or_none_by s i y true e = let t = s.reads i y e in record { parts = t.parts; meets = filled y.0 t.meets }
  or_none_by s i y false e = ok_took ([], i) y e (record { parts = sym (ap (λ r. r ++ marks i) empty); meets = tt })

  pub or_none_sound : Sound text items (Filled P) → Sound text (or_none begins items) (Each P)
  or_none_sound s = record { reads = λ i y e. or_none_by s i y (begins i) e }

  pub or_none_complete : (place : Placing (List A)) (Stop : Next → Type 0) → Complete text place items (Filled P) Stop
      → ((at : ℕ → Pos) (n : ℕ) → place at n [] ≡ [])
      → ((at : ℕ → Pos) (n : ℕ) (ts : List A) (j : Tokens) → Filled P ts → begins (located at n (text ts) ++ j) ≡ true)
      → (at : ℕ → Pos) (n : ℕ) (ts : List A) (j : Tokens) → Each P ts → Stop (next j) → begins j ≡ false
      → or_none begins items (located at n (text ts) ++ j) ≡ Ok (place at n ts, j)
  or_none_complete place Stop c none started at n [] j p h ends = rw (empty, ends, none at n) refl
  or_none_complete place Stop c none started at n (t ∷ ts) j p h ends = rw (started at n (t ∷ ts) j p, c.gives at n (t ∷ ts) j p h) refl
