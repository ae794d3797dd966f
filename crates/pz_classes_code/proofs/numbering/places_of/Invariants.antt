use Rattle.std.proofs.Common.{◌≡◌, ℕ, List, drop}
use Rattle.std.specs.Option.{option_or}
use Rattle.pz_classes_code.specs.NumberIn.{number_in}
use Rattle.pz_classes_code.specs.Places.{place_from, place_in}
use Rattle.pz_classes_code.proofs.numbering.places_of.Given as goal

abbrev pub invariant-loop-name : goal.invariant-loop-name
invariant-loop-name l = record {
  counted : l.place ≡ l.name-index;
  placed : (q : List ℕ) → option_or (number_in l.numbering q) (place_from l.place (drop l.name-index l.names) q) ≡ place_in l.names q;
}
