-- The class of an instance, case by case.
use Rattle.std.proofs.Common.{◌≡◌, refl, ℕ, Bool, true, false, ◌||◌, List, Option, Some, None}
use Rattle.std.specs.Option.{option_map, option_map_or}
use Rattle.pz_classes_code.specs.pz_syntax.Classes.{ModelTree}
use Rattle.pz_classes_code.specs.pz_value.declared.value.ClassId.{ClassId}
use Rattle.pz_classes_code.specs.ReservedNames.{is_primitive, is_unsupported}
use Rattle.pz_classes_rules.specs.Numbers.{declaration, class}
use Rattle.pz_classes_rules.specs.Kinds.{is_process, is_cluster}
use Rattle.pz_classes_rules.specs.Instances.{instance_class}
use Rattle.pz_classes_rules.specs.ClassNames.{class_id}

pub id_of_none : (o : Option ℕ) → None ≡ option_map class_id o → o ≡ None
id_of_none None is = refl
id_of_none (Some k) is = cc

pub id_of_some : (o : Option ℕ) (c : ClassId) → Some c ≡ option_map class_id o → o ≡ Some c.0
id_of_some None c is = cc
id_of_some (Some k) c is = cc

pub unknown_has_none : (m : ModelTree) (name : List ℕ) → is_unsupported name ≡ false → is_primitive name ≡ false → class m name ≡ None → None ≡ option_map class_id (instance_class m name)
unknown_has_none m name supported own none = rw (supported, own, none) refl

-- what a class of this number may have
abbrev pub may : ModelTree → ℕ → Bool
may m k = option_map_or is_process (declaration m k) false || option_map_or is_cluster (declaration m k) false

pub known_has : (m : ModelTree) (name : List ℕ) (c : ClassId) → is_unsupported name ≡ false → is_primitive name ≡ false → class m name ≡ Some c.0 → true ≡ may m c.0 → Some c ≡ option_map class_id (instance_class m name)
known_has m name c supported own some does = rw (supported, own, some, ← does) refl

pub known_has_none : (m : ModelTree) (name : List ℕ) (c : ClassId) → is_unsupported name ≡ false → is_primitive name ≡ false → class m name ≡ Some c.0 → false ≡ may m c.0 → None ≡ option_map class_id (instance_class m name)
known_has_none m name c supported own some does = rw (supported, own, some, ← does) refl
