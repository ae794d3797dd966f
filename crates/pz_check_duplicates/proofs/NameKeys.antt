-- Names by their keys.
use Rattle.std.proofs.Common.{◌≡◌, refl, ap, ◌∙◌, ℕ, Bool, List, map, Bor}
use Rattle.std.specs.Str.{bytes_eq}
use Rattle.pz_classes.specs.pz_syntax.declared.names.Id.{Id}
use Rattle.pz_classes.specs.pz_classes_rules.RepeatRules.{same_name}
use Rattle.pz_check_duplicates.specs.declared.places.Thing.{Thing}
use Rattle.pz_check_duplicates.specs.devices.Again.{same_key, thing_place, repeats}
use Rattle.pz_check_duplicates.specs.devices.Names.{id_of, id_place}
use Rattle.pz_check_duplicates.proofs.Repeated.{repeats_seen}

-- things that stand for names repeat where these do
pub names_repeat : (eq : Bor (List ℕ) → Bor (List ℕ) → Bool) → ((x y : Bor (List ℕ)) → eq x y ≡ bytes_eq x.now y.now) → (rule : ℕ) (things : List (Thing (Bor (List ℕ)))) (ids : List Id)
    → map id_of things ≡ ids → repeats (same_key eq) thing_place rule things ≡ repeats same_name id_place rule ids
names_repeat eq tells rule things ids same =
    repeats_seen (same_key eq) thing_place id_of same_name id_place (λ x y. tells x.key y.key) (λ x. refl) rule things ∙ ap (repeats same_name id_place rule) same
