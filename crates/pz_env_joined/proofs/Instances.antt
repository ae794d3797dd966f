-- Instances have the classes that they had.
use Rattle.std.proofs.Common.{◌≡◌, refl, sym, ap, ◌∙◌, ℕ, Bool, true, false, not, ◌&&◌, ◌||◌, List, [], Option, Some, None, arith}
use Rattle.std.specs.Prelude.{if◌then◌else◌}
use Rattle.std.specs.List.{Contains}
use Rattle.std.specs.Option.{option_map_or, option_and_then, unwrap_or}
use Rattle.pz_env_mimics.specs.pz_syntax.declared.clusters.Instance.{Instance}
use Rattle.pz_env_mimics.specs.pz_syntax.Classes.{DeclTree, data_class, process_class, cluster_class, system, ModelTree}
use Rattle.pz_env_mimics.specs.pz_classes_code.ReservedNames.{is_primitive}
use Rattle.pz_env_mimics.specs.pz_classes_rules.Numbers.{declaration, class}
use Rattle.pz_env_mimics.specs.pz_classes_rules.Kinds.{is_process, is_cluster, is_declared_as}
use Rattle.pz_env_mimics.specs.pz_classes_rules.NameRules.{has_instances}
use Rattle.pz_env_mimics.specs.pz_classes_rules.Instances.{instances, instance_class}
use Rattle.pz_env_mimics.specs.pz_classes_rules.SoundSystem.{SystemFits}
use Rattle.pz_env_mimics.specs.pz_bind_rules.Nest.{is_system, instances_in, class_of}
use Rattle.pz_env_grown.specs.Growth.{Alike, same, systems, Grown}
use Rattle.pz_env_grown.proofs.Numbers.{class_declared}
use Rattle.pz_env_grown.proofs.Alike.{became, of_declared}
use Rattle.pz_env_grown.proofs.Paths.{class_named, part_of}

-- a class that is no system
pub record IsInner (m : ModelTree) (c : ℕ) : Type 0 where
  pub decl : DeclTree
  pub is : declaration m c ≡ Some decl
  pub inner : is_system decl ≡ false

-- of a sort
sort_is : (m : ModelTree) (sort : DeclTree → Bool) (name : List ℕ) (k : ℕ) → class m name ≡ Some k
    → is_declared_as sort m name ≡ option_map_or sort (declaration m k) false
sort_is m sort name k is = ap (λ (o : Option ℕ). option_map_or sort (option_and_then (declaration m) o) false) is

not_system : (d : DeclTree) → is_process d || is_cluster d ≡ true → is_system d ≡ false
not_system (data_class d) is = refl
not_system (process_class d) is = refl
not_system (cluster_class d) is = refl
not_system (system d) is = cc

pub class_inner : (m : ModelTree) (name : List ℕ) (k : ℕ) → instance_class m name ≡ Some k → IsInner m k
class_inner m name k is =
    let part = part_of m name k is in record { decl = part.decl; is = part.declared; inner = not_system part.decl part.sort }

module _ (m n : ModelTree) (grown : Grown m n) where
  sort_same : (sort : DeclTree → Bool) → ((s t : _) → sort (system s) ≡ sort (system t)) → (name : List ℕ) (k : ℕ)
      → class m name ≡ Some k → is_declared_as sort n name ≡ is_declared_as sort m name
  sort_same sort still name k is =
      sort_is n sort name k (grown.classes name k is)
      ∙ sym (of_declared sort false still m n grown k (class_declared m name k is))
      ∙ sym (sort_is m sort name k is)

  pub instance_class_kept : (name : List ℕ) (k : ℕ) → instance_class m name ≡ Some k → instance_class n name ≡ Some k
  instance_class_kept name k is =
      let at = class_named m name k is in
      let has : has_instances n name ≡ true =
      ap (λ (b : Bool). not (is_primitive name) && (b || is_declared_as is_cluster n name)) (sort_same is_process (λ s t. refl) name k at.2)
      ∙ ap (λ (b : Bool). not (is_primitive name) && (is_declared_as is_process m name || b)) (sort_same is_cluster (λ s t. refl) name k at.2)
      ∙ at.1
      in
      ap (λ (b : Bool). if b then None else if has_instances n name then class n name else None) at.0
      ∙ ap (λ (b : Bool). if b then class n name else None) has
      ∙ grown.classes name k at.2

  inner_stays : (d e : DeclTree) → is_system d ≡ false → Alike d e → d ≡ e
  inner_stays _ _ inner (same d) = refl
  inner_stays _ _ inner (systems s t) = cc

  -- a class that is no system has the parts that it had
  pub inner_same : {A : Type 0} (part : DeclTree → List A) (c : ℕ) → IsInner m c
      → option_map_or part (declaration m c) [] ≡ option_map_or part (declaration n c) []
  inner_same part c at =
      let now = became m n grown c at.decl at.is in
      ap (λ (o : Option DeclTree). option_map_or part o []) at.is
      ∙ ap part (inner_stays at.decl now.decl at.inner now.like)
      ∙ sym (ap (λ (o : Option DeclTree). option_map_or part o []) now.there)

  -- its instances
  pub instances_same : (c : ℕ) → IsInner m c → instances_in m c ≡ instances_in n c
  instances_same c at = inner_same instances c at

-- the class of an instance of a sound model
module _ (m : ModelTree) (fits : SystemFits m) where
  pub instance_known : (c : ℕ) (d : DeclTree) (x : Instance) → declaration m c ≡ Some d → Contains (instances d) x
      → (k : ℕ) × (instance_class m x.class.name ≡ Some k)
  instance_known c d x is at = let fit = (fits.parts_fit c d is).instances_fit x at in (fit.class, fit.is_class)

  -- an instance in a level
  pub in_level : (c : ℕ) (x : Instance) → Contains (instances_in m c) x → (d : DeclTree) × (declaration m c ≡ Some d) × Contains (instances d) x
  in_level c x at = by (declaration m c) refl at
    where
      by : (o : Option DeclTree) → declaration m c ≡ o → Contains (option_map_or instances o []) x
          → (d : DeclTree) × (declaration m c ≡ Some d) × Contains (instances d) x
      by None is (k, low, there) = absurd (omega (arith, low))
      by (Some d) is there = (d, is, there)

  pub level_known : (c : ℕ) (x : Instance) → Contains (instances_in m c) x → (k : ℕ) × (instance_class m x.class.name ≡ Some k)
  level_known c x at = let there = in_level c x at in instance_known c there.0 x there.1 there.2

pub class_of_is : (m : ModelTree) (x : Instance) (k : ℕ) → instance_class m x.class.name ≡ Some k → class_of m x ≡ k
class_of_is m x k is = ap (λ (o : Option ℕ). unwrap_or o 0) is
