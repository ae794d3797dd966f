-- Lists with separators, of anything that has a text.
use Rattle.std.proofs.Common.{◌≡◌, ℕ, zero, suc, ◌+◌, ◌≤◌, Bool, true, false, List, [], ◌∷◌, ◌++◌, length, Some, Ok, Err, refl, ap, sym, ◌∙◌, subst, arith, append_assoc, length-append}
use Rattle.pz_syntax.specs.declared.tokens.Pos.{Pos}
use Rattle.pz_syntax.specs.declared.tokens.Symbol.{Symbol}
use Rattle.pz_syntax.specs.declared.tokens.TokenKind.{TokenKind}
use Rattle.pz_syntax.specs.declared.tokens.TokenKind.TheVariants as kind
use Rattle.pz_syntax.specs.declared.tokens.Mark.{Mark}
use Rattle.pz_syntax.specs.declared.tokens.Token.{Token}
use Rattle.pz_syntax.specs.Marks.{mark, symbol, separated, tail_separated}
use Rattle.pz_syntax.specs.ModelForm.{Each}
use Rattle.pz_parser_cursor.specs.declared.ahead.Next.{Next}
use Rattle.pz_parser_cursor.specs.devices.LookAhead.{next}
use Rattle.pz_parser_cursor.specs.devices.Input.{Tokens, marks, after, sees}
use Rattle.pz_parser_cursor.specs.devices.Device.{Outcome, Parser, ◌>>=◌, pure, past}
use Rattle.pz_parser_cursor.specs.devices.Lists.{tail_of, list_of, more_of, with_front, turns}
use Rattle.pz_parser_cursor.specs.Places.{located, Placing, place_tail, place_separated}
use Rattle.pz_parser_cursor.proofs.Shown.{token_of}
use Rattle.pz_parser_cursor.proofs.Steps.{bind_ok, takes, sees_is, not_seen}
use Rattle.pz_parser_cursor.proofs.Loops.{past_is, past_not}
use Rattle.pz_parser_cursor.proofs.Reading.{Took, Sound, Complete, ok_took, done, split_located, located_length}

module _ {A : Type 0} (text : A → List Mark) (separator : TokenKind) where
  abbrev pub tails : List A → List Mark
  tails [] = []
  tails (x ∷ xs) = mark separator ∷ (text x ++ tails xs)

  abbrev pub joined : List A → List Mark
  joined [] = []
  joined (x ∷ xs) = text x ++ tails xs

  pub count-le : (xs : List A) → length xs ≤ length (tails xs)
  count-le [] = omega arith
  count-le (x ∷ xs) = omega (arith, count-le xs, length-append (text x) (tails xs))

pub tails_are : {A : Type 0} (text : A → List Mark) (s : Symbol) (xs : List A) → tails text (kind.Sym s) xs ≡ tail_separated text s xs
tails_are text s [] = refl
tails_are text s (x ∷ xs) = ap (λ r. symbol s ∷ (text x ++ r)) (tails_are text s xs)

pub joined_is : {A : Type 0} (text : A → List Mark) (s : Symbol) (xs : List A) → joined text (kind.Sym s) xs ≡ separated text s xs
joined_is text s [] = refl
joined_is text s (x ∷ xs) = ap (λ r. text x ++ r) (tails_are text s xs)

-- one or more
abbrev pub Filled : {A : Type 0} → (A → Type 0) → List A → Type 0
Filled P [] = ⊥
Filled P (x ∷ xs) = P x × Each P xs

pub with_front_ok : {A : Type 0} (front : List A) (o : Outcome (List A)) (y : List A × Tokens) → with_front front o ≡ Ok y → (p : List A × Tokens) × (o ≡ Ok p) × (done (front ++ p.0, p.1) ≡ Ok y)
with_front_ok front (Ok p) y e = (p, refl, e)
with_front_ok front (Err d) y e = absurd cc

module _ {A : Type 0} (text : A → List Mark) (item : Parser A) (P : A → Type 0) (sep : Next) (x : TokenKind) (shows : token_of sep ≡ Some x) where
  tails_sound : Sound text item P → (turn : ℕ) (i : Tokens) (y : List A × Tokens) → tail_of item sep turn i ≡ Ok y → Took (tails text x) (Each P) i y
  unfolding tail_of
  tails_sound s zero i y e = ok_took ([], i) y e (record { parts = refl; meets = tt })
  tails_sound s (suc turn) i y e = split (λ j z f. tails_sound s turn j z f) (sees sep i) refl
    where
      split : ((j : Tokens) (z : List A × Tokens) → tail_of item sep turn j ≡ Ok z → Took (tails text x) (Each P) j z) → (b : Bool) → sees sep i ≡ b → Took (tails text x) (Each P) i y
      split again false h = ok_took ([], past sep i) y (rw h at e) (record { parts = ap marks (sym (past_not sep i h)); meets = tt })
      split again true h =
          let a = bind_ok (item (past sep i)) (λ x. tail_of item sep turn >>= (λ xs. pure (x ∷ xs))) y (rw h at e) in
          let first = s.reads (past sep i) a.0 a.1 in
          let b = bind_ok (tail_of item sep turn a.0.1) (λ xs. pure (a.0.0 ∷ xs)) y a.2 in
          let rest = again a.0.1 b.0 b.1 in
          let token = takes x i (ap token_of (sees_is sep i h) ∙ shows) in
          ok_took (a.0.0 ∷ b.0.0, b.0.1) y b.2 (record {
            parts = token ∙ ap (λ r. mark x ∷ r) (ap marks (sym (past_is sep i h)) ∙ first.parts ∙ ap (λ r. text a.0.0 ++ r) rest.parts ∙ sym (append_assoc (text a.0.0) (tails text x b.0.0) (marks b.0.1)));
            meets = (first.meets, rest.meets);
          })

  pub joined_sound : Sound text item P → Sound (joined text x) (list_of item sep) (Filled P)
  unfolding list_of more_of
  joined_sound s = record {
    reads = λ i y e.
        let a = bind_ok (item i) _ y e in
        let first = s.reads i a.0 a.1 in
        let b = with_front_ok (a.0.0 ∷ []) _ y a.2 in
        let rest = tails_sound s (turns a.0.1) a.0.1 b.0 b.1 in
        ok_took (a.0.0 ∷ b.0.0, b.0.1) y b.2 (record { parts = first.parts ∙ ap (λ r. text a.0.0 ++ r) rest.parts ∙ sym (append_assoc (text a.0.0) (tails text x b.0.0) (marks b.0.1)); meets = (first.meets, rest.meets) });
  }

abbrev pub token : TokenKind → Pos → Token
token x p = record { mark = mark x; pos = p }

module _ {A : Type 0} (text : A → List Mark) (place : Placing A) (item : Parser A) (P : A → Type 0) (sep : Next) (x : TokenKind) (Stop : Next → Type 0) (stops : Stop sep) (is_sep : (p : Pos) (i : Tokens) → next (token x p ∷ i) ≡ sep) (sees_sep : (p : Pos) (i : Tokens) → sees sep (token x p ∷ i) ≡ true) where
  next_behind : (at : ℕ → Pos) (n : ℕ) (ts : List A) (j : Tokens) → Stop (next j) → Stop (next (located at n (tails text x ts) ++ j))
  next_behind at n [] j h = h
  next_behind at n (t ∷ ts) j h = subst Stop (sym (is_sep (at n) (located at (suc n) (text t ++ tails text x ts) ++ j))) stops

  tails_complete : Complete text place item P Stop → (turn : ℕ) (at : ℕ → Pos) (n : ℕ) (ts : List A) (j : Tokens) → length ts ≤ turn → Each P ts → Stop (next j) → sees sep j ≡ false → tail_of item sep turn (located at n (tails text x ts) ++ j) ≡ Ok (place_tail text place at n ts, j)
  unfolding tail_of past after
  tails_complete c zero at n [] j le each h ends = refl
  tails_complete c zero at n (t ∷ ts) j le each h ends = absurd (omega arith)
  tails_complete c (suc turn) at n [] j le each h ends = rw ends refl
  tails_complete c (suc turn) at n (t ∷ ts) j le each h ends =
      let seen = sees_sep (at n) (located at (suc n) (text t ++ tails text x ts) ++ j) in
      rw (seen, split_located at (suc n) (text t) (tails text x ts) j, c.gives at (suc n) t (located at (suc n + length (text t)) (tails text x ts) ++ j) each.0 (next_behind at (suc n + length (text t)) ts j h), tails_complete c turn at (suc n + length (text t)) ts j (omega arith) each.1 h ends) refl

  pub joined_complete : Complete text place item P Stop → Complete (joined text x) (place_separated text place) (list_of item sep) (Filled P) (λ y. Stop y × (y ≡ sep → ⊥))
  unfolding list_of more_of
  joined_complete c = record { gives = give }
    where
      give : (at : ℕ → Pos) (n : ℕ) (ts : List A) (j : Tokens) → Filled P ts → Stop (next j) × (next j ≡ sep → ⊥) → list_of item sep (located at n (joined text x ts) ++ j) ≡ Ok (place_separated text place at n ts, j)
      give at n [] j some h = absurd some
      give at n (t ∷ ts) j some h =
          let k = n + length (text t) in
          let le : length ts ≤ length (located at k (tails text x ts) ++ j) = omega (arith, count-le text x ts, length-append (located at k (tails text x ts)) j, located_length at k (tails text x ts)) in
          rw (split_located at n (text t) (tails text x ts) j, c.gives at n t (located at k (tails text x ts) ++ j) some.0 (next_behind at k ts j h.0), tails_complete c (length (located at k (tails text x ts) ++ j)) at k ts j le some.1 h.0 (not_seen sep j h.1)) refl
