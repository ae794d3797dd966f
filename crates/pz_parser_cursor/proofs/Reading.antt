-- What is shown of each rule: what it reads is the text of a tree that meets P, and it reads each
-- such tree from its text, with the places of the tokens, before what does not go on with it.
use Rattle.std.proofs.Common.{◌≡◌, ℕ, suc, ◌+◌, List, [], ◌∷◌, ◌++◌, length, Ok, refl, ap, sym, ◌∙◌, subst, arith}
use Rattle.std.proofs.lemmas.List.{append-nil}
use Rattle.pz_syntax.specs.declared.tokens.Pos.{Pos}
use Rattle.pz_syntax.specs.declared.tokens.Mark.{Mark}
use Rattle.pz_parser_cursor.specs.declared.ahead.Next.{Next}
use Rattle.pz_parser_cursor.specs.devices.LookAhead.{next}
use Rattle.pz_parser_cursor.specs.devices.Input.{Tokens, marks}
use Rattle.pz_parser_cursor.specs.devices.Device.{Outcome, Parser}
use Rattle.pz_parser_cursor.specs.Places.{located, positions, Placing}

-- what a parser took from the front: the text of its value, which meets P
pub record Took {A : Type 0} (text : A → List Mark) (P : A → Type 0) (i : Tokens) (y : A × Tokens) : Type 0 where
  pub parts : marks i ≡ text y.0 ++ marks y.1
  pub meets : P y.0

pub record Sound {A : Type 0} (text : A → List Mark) (item : Parser A) (P : A → Type 0) : Type 0 where
  pub reads : (i : Tokens) (y : A × Tokens) → item i ≡ Ok y → Took text P i y

-- what meets P is read before what meets Stop
pub record Complete {A : Type 0} (text : A → List Mark) (place : Placing A) (item : Parser A) (P : A → Type 0) (Stop : Next → Type 0) : Type 0 where
  pub gives : (at : ℕ → Pos) (n : ℕ) (t : A) (j : Tokens) → P t → Stop (next j) → item (located at n (text t) ++ j) ≡ Ok (place at n t, j)

abbrev pub done : {A : Type 0} → A × Tokens → Outcome A
done x = Ok x

pub ok_took : {A : Type 0} {text : A → List Mark} {P : A → Type 0} {i : Tokens} (x y : A × Tokens) → done x ≡ done y → Took text P i x → Took text P i y
ok_took {text = text} {P = P} {i = i} x y e t = let p : x ≡ y = cc in subst (λ z. Took text P i z) p t

-- the parts of a text stand one behind the other
pub split_located : (at : ℕ → Pos) (n : ℕ) (a b : List Mark) (j : Tokens) → located at n (a ++ b) ++ j ≡ located at n a ++ (located at (n + length a) b ++ j)
split_located at n [] b j = let e : n ≡ n + 0 = omega arith in ap (λ k. located at k b ++ j) e
split_located at n (m ∷ a) b j =
    let e : suc n + length a ≡ n + suc (length a) = omega arith in
    ap (λ r. record { mark = m; pos = at n } ∷ r) (split_located at (suc n) a b j ∙ ap (λ k. located at (suc n) a ++ (located at k b ++ j)) e)

pub located_length : (at : ℕ → Pos) (n : ℕ) (a : List Mark) → length (located at n a) ≡ length a
located_length at n [] = refl
located_length at n (m ∷ a) = ap suc (located_length at (suc n) a)

pub marks_located : (at : ℕ → Pos) (n : ℕ) (a : List Mark) → marks (located at n a) ≡ a
marks_located at n [] = refl
marks_located at n (m ∷ a) = ap (λ r. m ∷ r) (marks_located at (suc n) a)

-- any tokens are their marks at their positions
pub tokens_located : (at : ℕ → Pos) (k : ℕ) (i : Tokens) → ((m : ℕ) → at (k + m) ≡ positions i m) → located at k (marks i) ≡ i
tokens_located at k [] h = refl
tokens_located at k (t ∷ ts) h =
    let first : at k ≡ t.pos = (let e : k ≡ k + 0 = omega arith in ap at e ∙ h 0) in
    ap (λ p. record { mark = t.mark; pos = p } ∷ located at (suc k) (marks ts)) first
    ∙ ap (λ r. t ∷ r) (tokens_located at (suc k) ts (λ m. let e : suc k + m ≡ k + suc m = omega arith in ap at e ∙ h (suc m)))

pub all_located : (i : Tokens) → located (positions i) 0 (marks i) ≡ i
all_located i = tokens_located (positions i) 0 i (λ m. let e : 0 + m ≡ m = omega arith in ap (positions i) e)

-- what is the text of t, and no more, is read as t with the positions of the tokens
pub whole_given : {A : Type 0} {text : A → List Mark} {place : Placing A} {item : Parser A} {P : A → Type 0} {Stop : Next → Type 0} → Complete text place item P Stop
    → (i : Tokens) (t : A) → P t → marks i ≡ text t → Stop (next []) → item i ≡ Ok (place (positions i) 0 t, [])
whole_given {text = text} {item = item} c i t p e stop =
    let same : located (positions i) 0 (text t) ++ [] ≡ i = append-nil (located (positions i) 0 (text t)) ∙ ap (located (positions i) 0) (sym e) ∙ all_located i in
    ap item (sym same) ∙ c.gives (positions i) 0 t [] p stop
