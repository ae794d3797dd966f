-- Things of which any two repeat one another.
use Rattle.std.proofs.Common.{◌≡◌, refl, ap, ◌∙◌, ℕ, Bool, true, List, [], ◌∷◌, map}
use Rattle.pz_classes.specs.pz_syntax.declared.tokens.Pos.{Pos}
use Rattle.pz_classes.specs.pz_syntax.declared.clusters.SystemDecl.{SystemDecl}
use Rattle.pz_check_duplicates.specs.declared.places.Alike.{Alike}
use Rattle.pz_check_duplicates.specs.declared.places.Thing.{Thing}
use Rattle.pz_check_duplicates.specs.devices.Again.{same_key, thing_place, repeats}
use Rattle.pz_check_duplicates.specs.devices.Outers.{any_two, itself}
use Rattle.pz_check_duplicates.specs.devices.Systems.{any_two_systems, system_place}
use Rattle.pz_check_duplicates.proofs.Repeated.{repeats_seen}

pub alike_repeat : (eq : Alike → Alike → Bool) → ((x y : Alike) → eq x y ≡ true) → (rule : ℕ) (things : List (Thing Alike)) (places : List Pos)
    → map thing_place things ≡ places → repeats (same_key eq) thing_place rule things ≡ repeats any_two itself rule places
alike_repeat eq all rule things places same =
    repeats_seen (same_key eq) thing_place thing_place any_two itself (λ x y. all x.key y.key) (λ x. refl) rule things ∙ ap (repeats any_two itself rule) same

pub systems_repeat : (ss : List SystemDecl) → repeats any_two_systems system_place 20 ss ≡ repeats any_two itself 20 (map system_place ss)
systems_repeat ss = repeats_seen any_two_systems system_place system_place any_two itself (λ x y. refl) (λ x. refl) 20 ss

-- of two lists that are seen alike both are empty or none
pub none_mapped : {A B C : Type 0} (f : A → C) (g : B → C) (xs : List A) (ys : List B) → map f xs ≡ map g ys → xs ≡ [] → ys ≡ []
none_mapped f g [] [] same none = refl
none_mapped f g [] (y ∷ ys) same none = cc
none_mapped f g (x ∷ xs) ys same none = cc

pub none_seen : {A B C : Type 0} (f : A → C) (g : B → C) (xs : List A) (ys : List B) → map f xs ≡ map g ys → ys ≡ [] → xs ≡ []
none_seen f g [] ys same none = refl
none_seen f g (x ∷ xs) [] same none = cc
none_seen f g (x ∷ xs) (y ∷ ys) same none = cc
