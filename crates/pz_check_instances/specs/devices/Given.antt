-- How the code sees that an instance gives each parameter once: a device of the proofs.
use Rattle.std.specs.Prelude.{ℕ, Bool, true, false, not, ◌&&◌, nat_eq, List, [], ◌∷◌, ◌++◌, length, Option, Some, None, if◌then◌else◌}
use Rattle.std.specs.List.{flat_map}
use Rattle.pz_classes_code.specs.pz_syntax.declared.clusters.Instance.{Instance}
use Rattle.pz_classes_code.specs.pz_syntax.Classes.{ModelTree}
use Rattle.pz_classes_lineage.specs.declared.visit.Visit.{Visit}
use Rattle.pz_classes.specs.pz_check_violations.declared.violation.Violation.{Violation}
use Rattle.pz_classes.specs.pz_check_violations.Order.{violation}
use Rattle.pz_classes.specs.pz_check_violations.Least.{listed}
use Rattle.pz_classes.specs.pz_classes_rules.Members.{spelled}
use Rattle.pz_classes.specs.pz_classes_rules.Instances.{instances, instance_class, parameters}
use Rattle.pz_classes.specs.pz_classes_rules.InstanceRules.{given_names, gives_each}
use Rattle.pz_check_instances.specs.devices.NameSets.{has_name}

-- each of the names that are given behind those that were seen is wanted, and none comes again
abbrev pub all_new : List (List ℕ) → List (List ℕ) → List (List ℕ) → Bool
all_new wanted seen [] = true
all_new wanted seen (x ∷ xs) = if has_name wanted x && not (has_name seen x) then all_new wanted (seen ++ x ∷ []) xs else false

-- and they are as many as the wanted, of which no two are the same
abbrev pub gives_wanted : List (List ℕ) → List (List ℕ) → Bool
gives_wanted given wanted = nat_eq (length given) (length wanted) && all_new wanted [] given

abbrev pub lacking : List (List ℕ) → Instance → List Violation
lacking wanted i = listed (not (gives_wanted (given_names i) wanted)) (violation 14 i.name.pos)

abbrev pub is_number : Option ℕ → ℕ → Bool
is_number None k = false
is_number (Some c) k = nat_eq c k

-- the instance, if it is one of this class
abbrev pub if_of_class : ModelTree → ℕ → Instance → List Instance
if_of_class m k i = if is_number (instance_class m i.class.name) k then i ∷ [] else []

-- those of these instances that are of this class
abbrev pub of_class : ModelTree → ℕ → List Instance → List Instance
of_class m k is = flat_map (if_of_class m k) is

abbrev pub all_instances : ModelTree → List Instance
all_instances m = flat_map instances m.decls

-- the violation of an instance of this class
abbrev pub ill_given_of : ModelTree → ℕ → Instance → List Violation
ill_given_of m k i = listed (not (gives_each (given_names i) (spelled (parameters m k)))) (violation 14 i.name.pos)

abbrev pub ill_given_in : ModelTree → ℕ → List Violation
ill_given_in m k = flat_map (ill_given_of m k) (of_class m k (all_instances m))

-- the violations of C14 as a list, class by class
abbrev pub all_given : ModelTree → List Visit → List Violation
all_given m visits = flat_map (λ v. ill_given_in m v.class) visits
