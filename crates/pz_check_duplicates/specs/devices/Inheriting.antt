-- What is found where names are declared one after another: a device of the proofs.
use Rattle.std.specs.Prelude.{ℕ, List, Option}
use Rattle.std.specs.Str.{bytes_eq}
use Rattle.pz_classes.specs.pz_syntax.declared.tokens.Pos.{Pos}
use Rattle.pz_classes.specs.pz_syntax.declared.names.Id.{Id}
use Rattle.pz_check_violations.specs.declared.violation.Violation.{Violation}
use Rattle.pz_classes.specs.pz_classes_rules.RepeatRules.{same_name}
use Rattle.pz_check_duplicates.specs.devices.Earlier.{earliest_of}
use Rattle.pz_check_duplicates.specs.devices.Again as again
use Rattle.pz_check_duplicates.specs.devices.Names.{id_place}

-- the earliest place of a name: the one found before, or that of one of these
abbrev pub earliest : Option Pos → List ℕ → List Id → Option Pos
earliest found name xs = earliest_of id_place (λ x. bytes_eq name x.name) found xs

-- each of these names in turn, held against the earliest place that it has so far
abbrev pub found_in : List Id → List Id → List Violation
found_in before ys = again.found_in same_name id_place 4 before ys
