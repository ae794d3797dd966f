-- Where a model has a size, no class holds itself.
use Rattle.std.proofs.Common.{◌≡◌, refl, sym, subst, ◌∙◌, ℕ, Bool, true, false, ◌||◌, List, [], Option, Some, None, arith, ◌⊎◌, inl, inr}
use Rattle.std.specs.List.{Contains}
use Rattle.std.specs.Option.{option_map_or}
use Rattle.pz_classes.specs.pz_syntax.declared.clusters.Instance.{Instance}
use Rattle.pz_classes.specs.pz_syntax.Classes.{DeclTree, data_class, process_class, cluster_class, system, ModelTree}
use Rattle.pz_check_violations.specs.Order.{violation}
use Rattle.pz_classes.specs.pz_classes_code.ReservedNames.{is_primitive, is_unsupported}
use Rattle.pz_classes.specs.pz_classes_rules.Numbers.{declaration, class}
use Rattle.pz_classes.specs.pz_classes_rules.Kinds.{is_process, is_cluster}
use Rattle.pz_classes.specs.pz_classes_rules.Instances.{instances, instance_class}
use Rattle.pz_classes.specs.pz_classes_rules.InstanceRules.{Holds, directly, through, holds_itself}
use Rattle.pz_classes.specs.pz_classes_rules.SizeRules.{HasNoSize, by_holding}
use Rattle.pz_check_size.specs.declared.nodes.Node.{Node}
use Rattle.pz_check_size.specs.devices.Nodes.{nodes}
use Rattle.pz_check_size.specs.devices.Counting.{NoneHoldsItself}
use Rattle.pz_check_size.proofs.ModelNodes.{HeldAs, as_instance, Declared, declared}
use Rattle.pz_check_size.proofs.SelfHolding.{stands, reaches_held}

-- the class of this number may have instances
abbrev may : ModelTree → ℕ → Bool
may m k = option_map_or is_process (declaration m k) false || option_map_or is_cluster (declaration m k) false

no_instance : (i : Instance) → Contains [] i → ⊥
no_instance i (k, below, is) = omega arith

module _ (m : ModelTree) where
  -- what an instance stands for is a class that may have instances
  stands_for : (name : List ℕ) (k : ℕ) → instance_class m name ≡ Some k → may m k ≡ true
  stands_for name k is = by_tests (is_unsupported name) (is_primitive name) (class m name) refl refl refl
    where
      by_sort : (j : ℕ) (t : Bool) → is_unsupported name ≡ false → is_primitive name ≡ false → class m name ≡ Some j → may m j ≡ t → may m k ≡ true
      by_sort j true supported own here does =
          let same : Some j ≡ Some k = rw (supported, own, here, does) at is in
          let equal : j ≡ k = cc in
          subst (λ (n : ℕ). may m n ≡ true) equal does
      by_sort j false supported own here does = let wrong : None ≡ Some k = rw (supported, own, here, does) at is in cc

      by_tests : (a b : Bool) (o : Option ℕ) → is_unsupported name ≡ a → is_primitive name ≡ b → class m name ≡ o → may m k ≡ true
      by_tests true b o unsupported own here = let wrong : None ≡ Some k = rw unsupported at is in cc
      by_tests false true o supported primitive here = let wrong : None ≡ Some k = rw (supported, primitive) at is in cc
      by_tests false false None supported own here = let wrong : None ≡ Some k = rw (supported, own, here) at is in cc
      by_tests false false (Some j) supported own here = by_sort j (may m j) supported own here refl

  held_may : (c k : ℕ) → Holds m c k → may m k ≡ true
  held_may c k (directly _ _ d i here among known) = stands_for i.class.name k known
  held_may c k (through _ b _ first second) = held_may b k second

  -- one in which an instance stands is a cluster class
  is_a_cluster : (c : ℕ) (d : DeclTree) (i : Instance) → declaration m c ≡ Some d → may m c ≡ true → Contains (instances d) i → is_cluster d ≡ true
  is_a_cluster c (data_class x) i here does among = absurd (no_instance i among)
  is_a_cluster c (process_class x) i here does among = absurd (no_instance i among)
  is_a_cluster c (cluster_class x) i here does among = refl
  is_a_cluster c (system s) i here does among = let wrong : false ≡ true = rw here at does in cc

  none_holds_itself : (HasNoSize m → ⊥) → NoneHoldsItself (nodes m)
  none_holds_itself sized c h among reaches =
      let s = stands m c h among in
      let d : Declared m c s.0 = declared m c s.0 h s.1 s.2 in
      let i : HeldAs m (instances d.decl) h = as_instance m (instances d.decl) h (subst (λ (n : Node). Contains n.held h) d.node s.2) in
      let either : (h.class ≡ c) ⊎ Holds m h.class c = elim (reaches_held m h.class c reaches) [ inl same ↦ inl (sym same) | inr held ↦ inr held ] in
      let does : may m c ≡ true = elim either [ inl same ↦ subst (λ (k : ℕ). may m k ≡ true) same (stands_for i.instance.class.name h.class i.class) | inr held ↦ held_may h.class c held ] in
      let cluster : is_cluster d.decl ≡ true = is_a_cluster c d.decl i.instance d.declared does i.among in
      sized (by_holding (violation 15 i.instance.class.pos) (holds_itself c h.class d.decl i.instance d.declared cluster i.among i.class either))

-- what the code asks
pub none_held : (m : ModelTree) (ns seen : List Node) → (HasNoSize m → ⊥) → ns ≡ nodes m → seen ≡ ns → NoneHoldsItself seen
none_held m ns seen sized nodes_are seen_are = subst NoneHoldsItself (sym (seen_are ∙ nodes_are)) (none_holds_itself m sized)
