-- The longest front of a text whose bytes are of one sort.
use Rattle.std.proofs.Common.{◌≡◌, ℕ, List, [], ◌∷◌, ◌++◌, Bool, true, false, refl, ◌∙◌, ap, ap₂}
use Rattle.std.specs.List.{list_all}
use Rattle.std.proofs.lemmas.Bool.{and_parts, and_from, false≢true}
use Rattle.pz_lexer.specs.Bytes.{begins}
use Rattle.pz_lexer.specs.devices.Step.{front, back}

module _ (sort : ℕ → Bool) where
  pub front-in : (b : ℕ) (bs : List ℕ) → sort b ≡ true → front sort (b ∷ bs) ≡ b ∷ front sort bs
  front-in b bs e = rw (e, front) refl

  pub front-out : (b : ℕ) (bs : List ℕ) → sort b ≡ false → front sort (b ∷ bs) ≡ []
  front-out b bs e = rw (e, front) refl

  pub back-in : (b : ℕ) (bs : List ℕ) → sort b ≡ true → back sort (b ∷ bs) ≡ back sort bs
  back-in b bs e = rw (e, back) refl

  pub back-out : (b : ℕ) (bs : List ℕ) → sort b ≡ false → back sort (b ∷ bs) ≡ b ∷ bs
  back-out b bs e = rw (e, back) refl

  pub front_run : (a x : List ℕ) → list_all sort a ≡ true → begins sort x ≡ false → front sort (a ++ x) ≡ a
  front_run [] [] all ends = refl
  front_run [] (b ∷ x) all ends = front-out b x ends
  front_run (b ∷ a) x all ends =
      let parts = and_parts (sort b) (list_all sort a) all in
      front-in b (a ++ x) parts.0 ∙ ap (λ l. b ∷ l) (front_run a x parts.1 ends)

  pub back_run : (a x : List ℕ) → list_all sort a ≡ true → begins sort x ≡ false → back sort (a ++ x) ≡ x
  back_run [] [] all ends = refl
  back_run [] (b ∷ x) all ends = back-out b x ends
  back_run (b ∷ a) x all ends =
      let parts = and_parts (sort b) (list_all sort a) all in
      back-in b (a ++ x) parts.0 ∙ back_run a x parts.1 ends

  pub front_all : (text : List ℕ) → list_all sort (front sort text) ≡ true
  front_all [] = refl
  front_all (b ∷ bs) = by (sort b) refl (front_all bs)
    where
      by : (t : Bool) → sort b ≡ t → list_all sort (front sort bs) ≡ true → list_all sort (front sort (b ∷ bs)) ≡ true
      by true e all = ap (list_all sort) (front-in b bs e) ∙ and_from (sort b) (list_all sort (front sort bs)) e all
      by false e all = ap (list_all sort) (front-out b bs e)

  pub back_begins : (text : List ℕ) → begins sort (back sort text) ≡ false
  back_begins [] = refl
  back_begins (b ∷ bs) = by (sort b) refl (back_begins bs)
    where
      by : (t : Bool) → sort b ≡ t → begins sort (back sort bs) ≡ false → begins sort (back sort (b ∷ bs)) ≡ false
      by true e ends = ap (begins sort) (back-in b bs e) ∙ ends
      by false e ends = ap (begins sort) (back-out b bs e) ∙ e

  pub front-back : (text : List ℕ) → front sort text ++ back sort text ≡ text
  front-back [] = refl
  front-back (b ∷ bs) = by (sort b) refl (front-back bs)
    where
      by : (t : Bool) → sort b ≡ t → front sort bs ++ back sort bs ≡ bs → front sort (b ∷ bs) ++ back sort (b ∷ bs) ≡ b ∷ bs
      by true e same = ap₂ (λ x y. x ++ y) (front-in b bs e) (back-in b bs e) ∙ ap (λ l. b ∷ l) same
      by false e same = ap₂ (λ x y. x ++ y) (front-out b bs e) (back-out b bs e)

  pub front_begins : (other : ℕ → Bool) (text : List ℕ) → begins sort text ≡ true → begins other text ≡ true → begins other (front sort text) ≡ true
  front_begins other [] some first = first
  front_begins other (b ∷ bs) some first = ap (begins other) (front-in b bs some) ∙ first

  pub begins-append : (a x : List ℕ) → begins sort a ≡ true → begins sort (a ++ x) ≡ true
  begins-append [] x some = absurd (false≢true some)
  begins-append (b ∷ a) x some = some
