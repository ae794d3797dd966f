-- Violations of C4 as a list, such that no violation comes before all of them: a device of the proofs.
use Rattle.std.specs.Prelude.{ℕ, List, [], ◌∷◌, ◌++◌, map}
use Rattle.std.specs.Option.{option_map_or}
use Rattle.std.specs.List.{flat_map}
use Rattle.pz_classes.specs.pz_syntax.declared.names.Id.{Id}
use Rattle.pz_classes.specs.pz_syntax.declared.clusters.Instance.{Instance}
use Rattle.pz_classes.specs.pz_syntax.Classes.{DeclTree, ModelTree}
use Rattle.pz_check_violations.specs.declared.violation.Violation.{Violation}
use Rattle.pz_classes_lineage.specs.declared.visit.Visit.{Visit}
use Rattle.pz_classes_mentions.specs.declared.local_scope.LocalScope.{LocalScope}
use Rattle.pz_classes_mentions.specs.Declarations.{parts}
use Rattle.pz_classes.specs.pz_classes_rules.Numbers.{declaration}
use Rattle.pz_classes.specs.pz_classes_rules.Ancestors.{ancestors}
use Rattle.pz_classes.specs.pz_classes_rules.Members.{from_root, own_fields, own_variables, own_ports}
use Rattle.pz_classes.specs.pz_classes_rules.CallRules.{own_messages}
use Rattle.pz_classes.specs.pz_classes_rules.Instances.{instances}
use Rattle.pz_classes.specs.pz_classes_rules.RepeatRules.{same_name, headings, same_heading, same_message}
use Rattle.pz_check_duplicates.specs.declared.inherited.Inherited.{Inherited}
use Rattle.pz_check_duplicates.specs.declared.inherited.Inherited.TheVariants.{Fields, Variables, Ports}
use Rattle.pz_check_duplicates.specs.devices.Again.{repeats}
use Rattle.pz_check_duplicates.specs.devices.Names.{id_place}
use Rattle.pz_check_duplicates.specs.devices.Inheriting.{found_in}
use Rattle.pz_check_duplicates.specs.devices.Headings.{heading_place}
use Rattle.pz_check_duplicates.specs.devices.Signals.{message_place}

-- what a class itself declares of this sort
abbrev pub own_of : Inherited → DeclTree → List Id
own_of Fields d = own_fields d
own_of Variables d = own_variables d
own_of Ports d = own_ports d

abbrev pub own_at : Inherited → ModelTree → ℕ → List Id
own_at sort m c = option_map_or (own_of sort) (declaration m c) []

-- found where the first of these classes is opened inside the others
abbrev pub of_line : ModelTree → Inherited → List ℕ → List Violation
of_line m sort [] = []
of_line m sort (c ∷ outer) = found_in (from_root (own_of sort) m outer) (own_at sort m c)

-- found along the walk that makes these visits
abbrev pub of_visits : ModelTree → Inherited → List Visit → List Violation
of_visits m sort visits = flat_map (λ v. of_line m sort (ancestors m v.class)) visits

abbrev pub of_names : List Id → List Violation
of_names ids = repeats same_name id_place 4 ids

abbrev pub of_part : LocalScope → List Violation
of_part p = of_names p.locals

abbrev pub of_parts : List LocalScope → List Violation
of_parts ps = flat_map of_part ps

-- those of what a class itself declares
abbrev pub of_own : DeclTree → List Violation
of_own d =
    of_parts (parts d)
    ++ (of_names (map (λ (i : Instance). i.name) (instances d))
    ++ (repeats same_heading heading_place 4 (headings d) ++ repeats same_message message_place 4 (own_messages d)))

abbrev pub all_repeats : ModelTree → List Visit → List Violation
all_repeats m visits = of_visits m Fields visits ++ (of_visits m Variables visits ++ (of_visits m Ports visits ++ flat_map of_own m.decls))
