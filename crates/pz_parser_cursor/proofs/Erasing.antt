-- The positions of the tokens change nothing else of names, groups, lists and what may be left out.
use Rattle.std.proofs.Common.{◌≡◌, ℕ, suc, ◌+◌, List, [], ◌∷◌, length, Some, None, refl, ap, ◌∙◌}
use Rattle.std.specs.Prelude.{map, option_map}
use Rattle.pz_syntax.specs.declared.tokens.Mark.{Mark}
use Rattle.pz_syntax.specs.Marks.{word_text}
use Rattle.pz_syntax.specs.ClassText.{group_text}
use Rattle.pz_syntax.specs.ExpressionErasure.{erase_id}
use Rattle.pz_syntax.specs.ModelErasure.{erase_group}
use Rattle.pz_parser_cursor.specs.Places.{Placing, place_id, place_tail, place_separated, place_each, place_optional, place_section, place_names, place_group, place_variables, place_enclosed}

-- what is left once the positions are erased does not depend on them
abbrev pub Erased : {A : Type 0} → (A → A) → Placing A → Type 0
Erased erase place = (at : _) (n : ℕ) (x : _) → erase (place at n x) ≡ erase x

module _ {A : Type 0} (text_of : A → List Mark) (erase : A → A) (place : Placing A) (e : Erased erase place) where
  erased_tail : Erased (map erase) (place_tail text_of place)
  erased_tail at n [] = refl
  erased_tail at n (x ∷ xs) = ap (λ y. y ∷ map erase (place_tail text_of place at (suc n + length (text_of x)) xs)) (e at (suc n) x) ∙ ap (λ ys. erase x ∷ ys) (erased_tail at (suc n + length (text_of x)) xs)

  pub erased_separated : Erased (map erase) (place_separated text_of place)
  erased_separated at n [] = refl
  erased_separated at n (x ∷ xs) = ap (λ y. y ∷ map erase (place_tail text_of place at (n + length (text_of x)) xs)) (e at n x) ∙ ap (λ ys. erase x ∷ ys) (erased_tail at (n + length (text_of x)) xs)

  pub erased_each : Erased (map erase) (place_each text_of place)
  erased_each at n [] = refl
  erased_each at n (x ∷ xs) = ap (λ y. y ∷ map erase (place_each text_of place at (n + length (text_of x)) xs)) (e at n x) ∙ ap (λ ys. erase x ∷ ys) (erased_each at (n + length (text_of x)) xs)

module _ {A : Type 0} (erase : A → A) (place : Placing A) (e : Erased erase place) where
  pub erased_optional : Erased (option_map erase) (place_optional place)
  erased_optional at n None = refl
  erased_optional at n (Some x) = ap (λ y. Some y) (e at n x)

  pub erased_section : Erased (option_map erase) (place_section place)
  erased_section at n None = refl
  erased_section at n (Some x) = ap (λ y. Some y) (e at (suc n) x)

pub erased_names : Erased (map erase_id) place_names
erased_names = erased_separated word_text erase_id place_id (λ at n x. refl)

pub erased_group : Erased erase_group place_group
erased_group at n g = ap (λ xs. record { names = xs; kind = erase_id g.kind }) (erased_names at n g.names)

pub erased_variables : Erased (map erase_group) place_variables
erased_variables = erased_separated group_text erase_group place_group erased_group

-- behind a `(` or a `|`
pub erased_enclosed : Erased (map erase_group) place_enclosed
erased_enclosed at n gs = erased_variables at (suc n) gs
