-- Lists without separators, of anything that has a text.
use Rattle.std.proofs.Common.{◌≡◌, ℕ, zero, suc, ◌+◌, ◌≤◌, ◌<◌, Bool, true, false, List, [], ◌∷◌, ◌++◌, length, Ok, refl, ap, sym, ◌∙◌, subst, arith, append_assoc, length-append}
use Rattle.pz_syntax.specs.declared.tokens.Pos.{Pos}
use Rattle.pz_syntax.specs.declared.tokens.Mark.{Mark}
use Rattle.pz_syntax.specs.Marks.{each_text}
use Rattle.pz_syntax.specs.ModelForm.{Each}
use Rattle.pz_parser_cursor.specs.declared.ahead.Next.{Next}
use Rattle.pz_parser_cursor.specs.devices.LookAhead.{next}
use Rattle.pz_parser_cursor.specs.devices.Input.{Tokens, marks}
use Rattle.pz_parser_cursor.specs.devices.Device.{Parser, ◌>>=◌, pure}
use Rattle.pz_parser_cursor.specs.devices.Lists.{repeat, each_of, turns}
use Rattle.pz_parser_cursor.specs.Places.{located, Placing, place_each}
use Rattle.pz_parser_cursor.proofs.Steps.{bind_ok}
use Rattle.pz_parser_cursor.proofs.Reading.{Took, Sound, Complete, ok_took, split_located, located_length}

module _ {A : Type 0} (text : A → List Mark) (begins : Tokens → Bool) (item : Parser A) (P : A → Type 0) where
  repeat_sound : ((i : Tokens) (y : A × Tokens) → begins i ≡ true → item i ≡ Ok y → Took text P i y) → (turn : ℕ) (i : Tokens) (y : List A × Tokens) → repeat begins item turn i ≡ Ok y → Took (each_text text) (Each P) i y
  unfolding repeat
  repeat_sound s zero i y e = ok_took ([], i) y e (record { parts = refl; meets = tt })
  repeat_sound s (suc turn) i y e = split (λ j z f. repeat_sound s turn j z f) (begins i) refl
    where
      split : ((j : Tokens) (z : List A × Tokens) → repeat begins item turn j ≡ Ok z → Took (each_text text) (Each P) j z) → (b : Bool) → begins i ≡ b → Took (each_text text) (Each P) i y
      split again false h = ok_took ([], i) y (rw h at e) (record { parts = refl; meets = tt })
      split again true h =
          let a = bind_ok (item i) (λ x. repeat begins item turn >>= (λ xs. pure (x ∷ xs))) y (rw h at e) in
          let first = s i a.0 h a.1 in
          let b = bind_ok (repeat begins item turn a.0.1) (λ xs. pure (a.0.0 ∷ xs)) y a.2 in
          let rest = again a.0.1 b.0 b.1 in
          ok_took (a.0.0 ∷ b.0.0, b.0.1) y b.2 (record {
            parts = first.parts ∙ ap (λ r. text a.0.0 ++ r) rest.parts ∙ sym (append_assoc (text a.0.0) (each_text text b.0.0) (marks b.0.1));
            meets = (first.meets, rest.meets);
          })

  -- what is read only where one begins
  pub each_sound : ((i : Tokens) (y : A × Tokens) → begins i ≡ true → item i ≡ Ok y → Took text P i y) → Sound (each_text text) (each_of begins item) (Each P)
  unfolding each_of
  each_sound s = record { reads = λ i y e. repeat_sound s (turns i) i y e }

  -- the first token of an item shows that one begins, and an item may stand before the next
  module _ (place : Placing A) (Stop : Next → Type 0) (started : (at : ℕ → Pos) (n : ℕ) (t : A) (j : Tokens) → P t → (begins (located at n (text t) ++ j) ≡ true) × Stop (next (located at n (text t) ++ j))) (filled : (t : A) → P t → 0 < length (text t)) (c : Complete text place item P Stop) where
    count-le : (ts : List A) → Each P ts → length ts ≤ length (each_text text ts)
    count-le [] each = omega arith
    count-le (t ∷ ts) each = omega (arith, filled t each.0, count-le ts each.1, length-append (text t) (each_text text ts))

    next_behind : (at : ℕ → Pos) (n : ℕ) (ts : List A) (j : Tokens) → Each P ts → Stop (next j) → Stop (next (located at n (each_text text ts) ++ j))
    next_behind at n [] j each h = h
    next_behind at n (t ∷ ts) j each h = subst (λ i. Stop (next i)) (sym (split_located at n (text t) (each_text text ts) j)) (started at n t (located at (n + length (text t)) (each_text text ts) ++ j) each.0).1

    repeat_complete : (turn : ℕ) (at : ℕ → Pos) (n : ℕ) (ts : List A) (j : Tokens) → length ts ≤ turn → Each P ts → Stop (next j) → begins j ≡ false → repeat begins item turn (located at n (each_text text ts) ++ j) ≡ Ok (place_each text place at n ts, j)
    unfolding repeat
    repeat_complete zero at n [] j le each h ends = refl
    repeat_complete zero at n (t ∷ ts) j le each h ends = absurd (omega arith)
    repeat_complete (suc turn) at n [] j le each h ends = rw ends refl
    repeat_complete (suc turn) at n (t ∷ ts) j le each h ends =
        let k = n + length (text t) in
        let rest = located at k (each_text text ts) ++ j in
        rw (split_located at n (text t) (each_text text ts) j, (started at n t rest each.0).0, c.gives at n t rest each.0 (next_behind at k ts j each.1 h), repeat_complete turn at k ts j (omega arith) each.1 h ends) refl

    pub each_complete : (at : ℕ → Pos) (n : ℕ) (ts : List A) (j : Tokens) → Each P ts → Stop (next j) → begins j ≡ false → each_of begins item (located at n (each_text text ts) ++ j) ≡ Ok (place_each text place at n ts, j)
    unfolding each_of
    each_complete at n ts j each h ends =
        let le : length ts ≤ length (located at n (each_text text ts) ++ j) = omega (arith, count-le ts each, length-append (located at n (each_text text ts)) j, located_length at n (each_text text ts)) in
        repeat_complete (length (located at n (each_text text ts) ++ j)) at n ts j le each h ends
