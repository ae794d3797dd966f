-- One name further among those that a class declares.
use Rattle.std.proofs.Common.{◌≡◌, sym, ap, ◌∙◌, ℕ, suc, ◌+◌, ◌<◌, List, [], ◌∷◌, ◌++◌, append_assoc, map, take, drop, length, get_or, drop-cons, Bor, Option, None, arith}
use Rattle.std.proofs.lemmas.List.{map_more}
use Rattle.pz_classes.specs.pz_syntax.declared.names.Id.{Id}
use Rattle.pz_check_violations.specs.declared.violation.Violation.{Violation}
use Rattle.pz_check_violations.specs.Least.{least_from}
use Rattle.pz_check_violations.proofs.Leasts.{least_from_append}
use Rattle.pz_check_duplicates.specs.declared.places.Thing.{Thing}
use Rattle.pz_check_duplicates.specs.devices.Names.{id_of}
use Rattle.pz_check_duplicates.specs.devices.Again.{later_of}
use Rattle.pz_check_duplicates.specs.devices.Inheriting.{earliest, found_in}

module _ (own : List Id) (things : List (Thing (Bor (List ℕ)))) (i : ℕ) where
  -- the class's names with those of the first i things
  abbrev pub so_far : List Id
  so_far = own ++ map id_of (take i things)

  module _ (default : Thing (Bor (List ℕ))) (within : i < length things) where
    abbrev next : Thing (Bor (List ℕ))
    next = get_or things i default

    pub one_longer : own ++ map id_of (take (i + 1) things) ≡ so_far ++ (id_of next ∷ [])
    one_longer = ap (λ (xs : List Id). own ++ xs) (map_more id_of things i default within) ∙ sym (append_assoc own (map id_of (take i things)) (id_of next ∷ []))

    pub found_further : (outer : List Id) (least now whole : Option Violation) → now ≡ least_from least (later_of 4 (earliest None next.key.now (outer ++ so_far)) next.place)
        → least_from least (found_in (outer ++ so_far) (map id_of (drop i things))) ≡ whole
        → least_from now (found_in (outer ++ (own ++ map id_of (take (i + 1) things))) (map id_of (drop (i + 1) things))) ≡ whole
    found_further outer least now whole is found =
        let at_next = later_of 4 (earliest None next.key.now (outer ++ so_far)) next.place in
        let rest = found_in ((outer ++ so_far) ++ (id_of next ∷ [])) (map id_of (drop (suc i) things)) in
        let split : least_from least (at_next ++ rest) ≡ whole = rw (drop-cons things i default within) at found in
        let names : outer ++ (own ++ map id_of (take (i + 1) things)) ≡ (outer ++ so_far) ++ (id_of next ∷ []) = ap (λ (xs : List Id). outer ++ xs) one_longer ∙ sym (append_assoc outer so_far (id_of next ∷ [])) in
        let after : i + 1 ≡ suc i = omega arith in
        rw (is, names, after) (sym (least_from_append least at_next rest) ∙ split)
