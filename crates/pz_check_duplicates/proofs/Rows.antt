-- Small models: what repeats, wherever it is said to stand.
use Rattle.std.proofs.Common.{◌≡◌, refl, ℕ, List, [], ◌∷◌, None, codes}
use Rattle.pz_classes.specs.pz_syntax.declared.tokens.Pos.{Pos}
use Rattle.pz_classes.specs.pz_syntax.declared.names.Id.{Id}
use Rattle.pz_classes.specs.pz_syntax.declared.clusters.SystemDecl.{SystemDecl}
use Rattle.pz_check_violations.specs.Order.{violation}
use Rattle.pz_classes.specs.pz_classes_rules.RepeatRules.{same_name}
use Rattle.pz_check_duplicates.specs.devices.Again.{repeats}
use Rattle.pz_check_duplicates.specs.devices.Names.{id_place}
use Rattle.pz_check_duplicates.specs.devices.Systems.{any_two_systems, system_place}

abbrev place : ℕ → ℕ → Pos
place line column = record { line = line; column = column }

abbrev id : ℕ → List ℕ → Id
id line name = record { name = name; pos = place line 1 }

abbrev system_at : ℕ → SystemDecl
system_at line = record { pos = place line 1; instances = None; channels = None }

-- two names at one position
twice_at_one_place : repeats same_name id_place 4 (id 9 (codes "x") ∷ id 9 (codes "y") ∷ id 9 (codes "x") ∷ []) ≡ violation 4 (place 9 1) ∷ []
twice_at_one_place = refl

-- the later in the text, in whatever order they are given
later_of_two : repeats same_name id_place 4 (id 3 (codes "x") ∷ id 1 (codes "x") ∷ []) ≡ violation 4 (place 3 1) ∷ []
later_of_two = refl

-- of three systems the earliest is none
three_systems : repeats any_two_systems system_place 20 (system_at 3 ∷ system_at 1 ∷ system_at 2 ∷ []) ≡ violation 20 (place 3 1) ∷ violation 20 (place 2 1) ∷ []
three_systems = refl
