-- What an instance is: a process, a cluster, or of no class.
use Rattle.std.proofs.Common.{◌≡◌, refl, sym, ap, ◌∙◌, ℕ, Bool, true, false, not, ◌&&◌, ◌||◌, List, [], Option, Some, None}
use Rattle.std.specs.Option.{option_map_or, unwrap_or}
use Rattle.pz_classes_rules.specs.pz_syntax.declared.clusters.Instance.{Instance}
use Rattle.pz_classes_rules.specs.pz_syntax.declared.clusters.ClusterClass.{ClusterClass}
use Rattle.pz_classes_rules.specs.pz_syntax.Classes.{DeclTree, ProcessClassTree, data_class, process_class, cluster_class, system, ModelTree}
use Rattle.pz_classes_rules.specs.pz_classes_code.ReservedNames.{is_primitive, is_unsupported}
use Rattle.pz_classes_rules.specs.Numbers.{declaration, class}
use Rattle.pz_classes_rules.specs.NameRules.{has_instances}
use Rattle.pz_classes_rules.specs.Kinds.{is_process, is_cluster}
use Rattle.pz_classes_rules.specs.Instances.{instance_class}
use Rattle.pz_bind_rules.specs.Nest.{instances_in, class_of}
use Rattle.pz_bind_rules.specs.devices.Layouts.{is_cluster_class}

pub data Sort (m : ModelTree) (x : Instance) : Type 0 where
  of_none : instance_class m x.class.name ≡ None → Sort m x
  a_process : (p : ProcessClassTree) → declaration m (class_of m x) ≡ Some (process_class p) → Sort m x
  a_cluster : (c : ClusterClass) → declaration m (class_of m x) ≡ Some (cluster_class c) → Sort m x

never : (b : Bool) → b && false ≡ true → ⊥
never true wrong = cc
never false wrong = cc

module _ (m : ModelTree) (x : Instance) where
  abbrev name : List ℕ
  name = x.class.name

  pub sort : Sort m x
  sort = by_support (is_unsupported name) refl
    where
      by_decl : (c : ℕ) → class m name ≡ Some c → class_of m x ≡ c → (o : Option DeclTree) → declaration m c ≡ o
          → not (is_primitive name) && (option_map_or is_process o false || option_map_or is_cluster o false) ≡ true → Sort m x
      by_decl c named is None declared has = absurd (never (not (is_primitive name)) has)
      by_decl c named is (Some (data_class d)) declared has = absurd (never (not (is_primitive name)) has)
      by_decl c named is (Some (process_class p)) declared has = a_process p (rw is declared)
      by_decl c named is (Some (cluster_class d)) declared has = a_cluster d (rw is declared)
      by_decl c named is (Some (system s)) declared has = absurd (never (not (is_primitive name)) has)

      by_class : is_unsupported name ≡ false → has_instances m name ≡ true → (o : Option ℕ) → class m name ≡ o → Sort m x
      by_class supported has None named = of_none (rw (supported, has) named)
      by_class supported has (Some c) named =
          let known : instance_class m name ≡ Some c = rw (supported, has) named in
          by_decl c named (ap (λ (o : Option ℕ). unwrap_or o 0) known) (declaration m c) refl (rw named at has)

      by_instances : is_unsupported name ≡ false → (b : Bool) → has_instances m name ≡ b → Sort m x
      by_instances supported true has = by_class supported has (class m name) refl
      by_instances supported false has = of_none (rw (supported, has) refl)

      by_support : (b : Bool) → is_unsupported name ≡ b → Sort m x
      by_support true is = of_none (rw is refl)
      by_support false is = by_instances is (has_instances m name) refl

  -- what is no cluster holds nothing
  pub holds_none : is_cluster_class m (class_of m x) ≡ false → instances_in m (class_of m x) ≡ []
  holds_none bare = by_sort sort
    where
      by_sort : Sort m x → instances_in m (class_of m x) ≡ []
      by_sort (of_none is) = let zero_class : class_of m x ≡ 0 = ap (λ (o : Option ℕ). unwrap_or o 0) is in rw zero_class refl
      by_sort (a_process p is) = rw is refl
      by_sort (a_cluster c is) = let wrong : true ≡ false = rw is at bare in cc

  -- what has a class is a process just where it is no cluster
  pub one_or_other : (c : ℕ) → instance_class m name ≡ Some c → option_map_or is_process (declaration m (class_of m x)) false ≡ not (is_cluster_class m (class_of m x))
  one_or_other c known = by_sort sort
    where
      by_sort : Sort m x → option_map_or is_process (declaration m (class_of m x)) false ≡ not (is_cluster_class m (class_of m x))
      by_sort (of_none is) = let wrong : None ≡ Some c = sym is ∙ known in cc
      by_sort (a_process p is) = rw is refl
      by_sort (a_cluster d is) = rw is refl
