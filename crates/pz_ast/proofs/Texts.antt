-- Texts of parts that are seen as other things.
use Rattle.std.proofs.Common.{◌≡◌, List, [], ◌∷◌, ◌++◌, map, Option, Some, None, option_map, refl, ap}
use Rattle.pz_syntax.specs.declared.tokens.Keyword.{Keyword}
use Rattle.pz_syntax.specs.declared.tokens.Mark.{Mark}
use Rattle.pz_syntax.specs.Marks.{each_text, section}

pub each_text_map : {A B : Type 0} (text_of : B → List Mark) (view : A → B) (xs : List A) → each_text text_of (map view xs) ≡ each_text (λ x. text_of (view x)) xs
each_text_map text_of view [] = refl
each_text_map text_of view (x ∷ xs) = ap (λ rest. text_of (view x) ++ rest) (each_text_map text_of view xs)

pub section_map : {A B : Type 0} (begin : Keyword) (text_of : B → List Mark) (view : A → B) (x : Option A) → section begin text_of (option_map view x) ≡ section begin (λ y. text_of (view y)) x
section_map begin text_of view None = refl
section_map begin text_of view (Some y) = refl
