-- The instances of a grown model: those that were there, and one of the new class. C14 and C15.
use Rattle.std.proofs.Common.{◌≡◌, ◌≢◌, sym, ap, ap₂, subst, ◌∙◌, ℕ, suc, ◌<◌, true, false, List, [], ◌∷◌, map, length, Option, Some, IsTrue, arith, ◌⊎◌, inl, inr, ⊎_elim}
use Rattle.std.specs.List.{Contains}
use Rattle.std.specs.Option.{unwrap_or}
use Rattle.std.proofs.lemmas.Bool.{both_ways, false≢true}
use Rattle.std.proofs.lemmas.List.Elements.{Contains-append_cases}
use Rattle.pz_env_tree.specs.pz_syntax.declared.names.Id.{Id}
use Rattle.pz_env_tree.specs.pz_syntax.declared.clusters.Given.{Given}
use Rattle.pz_env_tree.specs.pz_syntax.declared.clusters.Instance.{Instance}
use Rattle.pz_env_tree.specs.pz_syntax.declared.clusters.SystemDecl.{SystemDecl}
use Rattle.pz_env_tree.specs.pz_syntax.Classes.{DeclTree, ProcessClassTree, data_class, process_class, cluster_class, system, ModelTree}
use Rattle.pz_env_tree.specs.pz_check_violations.declared.violation.Violation.{Violation}
use Rattle.pz_env_tree.specs.pz_check_violations.Order.{violation}
use Rattle.pz_env_tree.specs.pz_classes_code.ReservedNames.{is_unsupported}
use Rattle.pz_env_tree.specs.pz_classes_rules.Numbers.{declaration, class}
use Rattle.pz_env_tree.specs.pz_classes_rules.Kinds.{is_cluster}
use Rattle.pz_env_tree.specs.pz_classes_rules.Members.{spelled, section}
use Rattle.pz_env_tree.specs.pz_classes_rules.NameRules.{has_instances}
use Rattle.pz_env_tree.specs.pz_classes_rules.Reached.{AncestorsAreReached}
use Rattle.pz_env_tree.specs.pz_classes_rules.Instances.{instances, instance_class, parameters}
use Rattle.pz_env_tree.specs.pz_classes_rules.InstanceRules.{given_names, gives_each, BreaksC14, ill_given, Holds, directly, through, BreaksC15, holds_itself}
use Rattle.pz_env_tree.specs.pz_classes_rules.SoundSystem.{SoundSystemsFit, InstanceFits}
use Rattle.pz_env_tree.specs.pz_classes_rules.Soundness.{IsSound, given, holding}
use Rattle.pz_env_grown.proofs.Elements.{none_in, in_cases}
use Rattle.pz_env_grown.proofs.Numbers.{some_same, class_within}
use Rattle.pz_env_grown.proofs.Paths.{class_named}
use Rattle.pz_env_sound.proofs.Grown.{grown_decl, grown, IsDeclared, old, new, declared, declared_other, class_kept, class_new, cluster_same}
use Rattle.pz_env_sound.proofs.Members.{parameters_same, parameters_new}
use Rattle.pz_env_sound.proofs.NewParts.{IsFresh, Gains}
use Rattle.pz_env_sound.proofs.KeptWords.{instances_kept}
use Rattle.pz_env_sound.proofs.Words.{new_has_instances}

pub instance_named_class : (m : ModelTree) (name : List ℕ) (k : ℕ) → is_unsupported name ≡ false → has_instances m name ≡ true
    → class m name ≡ Some k → instance_class m name ≡ Some k
instance_named_class m name k known may named = rw (known, may) named

module _ (f : SystemDecl → SystemDecl) (e : ProcessClassTree) (i : Instance) (m : ModelTree) (gains : Gains f e i) where
  -- an instance that was there, or the new one
  pub in_instances : (was : DeclTree) (j : Instance) → Contains (instances (grown_decl f was)) j → Contains (instances was) j ⊎ (i ≡ j)
  in_instances (data_class d) j has = inl has
  in_instances (process_class d) j has = inl has
  in_instances (cluster_class d) j has = inl has
  in_instances (system s) j has =
      ⊎_elim inl (λ last. ⊎_elim inr (λ none. absurd (none_in j none)) (in_cases i [] j last))
      (Contains-append_cases (unwrap_or s.instances []) (i ∷ []) j (subst (λ (xs : List Instance). Contains xs j) (gains.instances s) has))

  pub class_stays : (name : List ℕ) (k : ℕ) → instance_class m name ≡ Some k → instance_class (grown m f e) name ≡ Some k
  class_stays name k is =
      let its = class_named m name k is in
      instance_named_class (grown m f e) name k its.0 (instances_kept f e m name its.1) (class_kept f e m name k its.2)

  module _ (sound : IsSound m) (reached : AncestorsAreReached) (fresh : IsFresh m e) where
    pub class_of_new : instance_class (grown m f e) i.class.name ≡ Some (suc (length m.decls))
    class_of_new =
        instance_named_class (grown m f e) i.class.name (suc (length m.decls)) (ap is_unsupported gains.class ∙ fresh.supported) (new_has_instances f e i m sound reached fresh gains)
        (ap (class (grown m f e)) gains.class ∙ class_new f e m fresh.unknown)

    module _ (systems : SoundSystemsFit) where
      -- the class of an instance that was there
      pub record HasClass (j : Instance) : Type 0 where
        pub number : ℕ
        pub was : instance_class m j.class.name ≡ Some number
        pub is : instance_class (grown m f e) j.class.name ≡ Some number
        pub within : number < suc (length m.decls)

      pub has_class : (c : ℕ) (was : DeclTree) → declaration m c ≡ Some was → (j : Instance) → Contains (instances was) j → HasClass j
      has_class c was there j has =
          let fits : InstanceFits m j = ((systems m sound).parts_fit c was there).instances_fit j has in
          record {
            number = fits.class;
            was = fits.is_class;
            is = class_stays j.class.name fits.class fits.is_class;
            within = class_within m j.class.name fits.class (class_named m j.class.name fits.class fits.is_class).2;
          }

      same_class : (j : Instance) (its : HasClass j) (k : ℕ) → instance_class (grown m f e) j.class.name ≡ Some k → its.number ≡ k
      same_class j its k is = some_same its.number k (sym its.is ∙ is)

      new_class : (j : Instance) (k : ℕ) → i ≡ j → instance_class (grown m f e) j.class.name ≡ Some k → suc (length m.decls) ≡ k
      new_class j k same is = some_same (suc (length m.decls)) k (sym class_of_new ∙ ap (λ (x : Instance). instance_class (grown m f e) x.class.name) same ∙ is)

      pub each_is_given : (v : Violation) → BreaksC14 (grown m f e) v → ⊥
      each_is_given _ (ill_given c k d j at has is wrong) = by (declared f e m c d at)
        where
          old_one : (was : DeclTree) → declaration m c ≡ Some was → Contains (instances was) j → HasClass j → ⊥
          old_one was there in_was its =
              let number : its.number ≡ k = same_class j its k is in
              let low = its.within in
              let params : parameters (grown m f e) k ≡ parameters m its.number =
              ap (parameters (grown m f e)) (sym number) ∙ parameters_same f e m sound reached its.number (λ q. omega (arith, low, q)) in
              sound.rules (violation 14 j.name.pos) (given (violation 14 j.name.pos)
              (ill_given c its.number was j there in_was its.was (ap (λ (ids : List Id). gives_each (given_names j) (spelled ids)) (sym params) ∙ wrong)))

          new_one : i ≡ j → ⊥
          new_one same =
              let number : suc (length m.decls) ≡ k = new_class j k same is in
              let params : parameters (grown m f e) k ≡ [] =
              ap (parameters (grown m f e)) (sym number) ∙ parameters_new f e m sound reached fresh.alone ∙ ap section fresh.bare in
              let names : given_names j ≡ [] =
              ap given_names (sym same) ∙ ap (λ (o : Option (List Given)). map (λ (g : Given). g.name.name) (unwrap_or o [])) gains.given in
              both_ways (gives_each (given_names j) (spelled (parameters (grown m f e) k))) wrong (ap₂ (λ (a : List (List ℕ)) (b : List Id). gives_each a (spelled b)) names params)

          by : IsDeclared f e m c d → ⊥
          by (old was there same) =
              ⊎_elim (λ in_was. old_one was there in_was (has_class c was there j in_was)) new_one
              (in_instances was j (subst (λ (z : DeclTree). Contains (instances z) j) same has))
          by (new number same) = none_in j (subst (λ (z : DeclTree). Contains (instances z) j) same has)

      -- The new class holds none

      none_held : (a k : ℕ) → Holds (grown m f e) a k → a ≡ suc (length m.decls) → ⊥
      none_held _ _ (directly c k d j at has is) number = by (declared f e m c d at)
        where
          by : IsDeclared f e m c d → ⊥
          by (old was there same) = declared_other f e m c was there number
          by (new last same) = none_in j (subst (λ (z : DeclTree). Contains (instances z) j) same has)
      none_held _ _ (through c b k first rest) number = none_held c b first number

      holds_as_before : (a k : ℕ) → Holds (grown m f e) a k → k ≢ suc (length m.decls) → Holds m a k
      holds_as_before _ _ (directly c k d j at has is) other = by (declared f e m c d at)
        where
          old_one : (was : DeclTree) → declaration m c ≡ Some was → Contains (instances was) j → HasClass j → Holds m c k
          old_one was there in_was its = subst (λ (b : ℕ). Holds m c b) (same_class j its k is) (directly c its.number was j there in_was its.was)

          by : IsDeclared f e m c d → Holds m c k
          by (old was there same) =
              ⊎_elim (λ in_was. old_one was there in_was (has_class c was there j in_was)) (λ last. absurd (other (sym (new_class j k last is))))
              (in_instances was j (subst (λ (z : DeclTree). Contains (instances z) j) same has))
          by (new number same) = absurd (none_in j (subst (λ (z : DeclTree). Contains (instances z) j) same has))
      holds_as_before _ _ (through c b k first rest) other = through c b k (holds_as_before c b first (none_held b k rest)) (holds_as_before b k rest other)

      pub none_holds_itself : (v : Violation) → BreaksC15 (grown m f e) v → ⊥
      none_holds_itself _ (holds_itself c k d j at cluster has is holds) = by (declared f e m c d at)
        where
          again : (its : HasClass j) → c ≢ suc (length m.decls) → (k ≡ c) ⊎ Holds (grown m f e) k c
              → (its.number ≡ c) ⊎ Holds m its.number c
          again its other (inl same) = inl (same_class j its k is ∙ same)
          again its other (inr more) = inr (subst (λ (b : ℕ). Holds m b c) (sym (same_class j its k is)) (holds_as_before k c more other))

          in_cluster : (was : DeclTree) → declaration m c ≡ Some was → IsTrue (is_cluster was) → c ≢ suc (length m.decls)
              → Contains (instances (grown_decl f was)) j → Contains (instances was) j ⊎ (i ≡ j) → ⊥
          in_cluster was there is_one other at_all (inl in_was) =
              let its = has_class c was there j in_was in
              sound.rules (violation 15 j.class.pos) (holding (violation 15 j.class.pos) (holds_itself c its.number was j there is_one in_was its.was (again its other holds)))
          in_cluster (data_class x) there is_one other at_all (inr last) = none_in j at_all
          in_cluster (process_class x) there is_one other at_all (inr last) = none_in j at_all
          in_cluster (cluster_class x) there is_one other at_all (inr last) =
              let its = has_class c (cluster_class x) there j at_all in
              sound.rules (violation 15 j.class.pos) (holding (violation 15 j.class.pos) (holds_itself c its.number (cluster_class x) j there is_one at_all its.was (again its other holds)))
          in_cluster (system x) there is_one other at_all (inr last) = false≢true is_one

          by : IsDeclared f e m c d → ⊥
          by (old was there same) =
              let at_all = subst (λ (z : DeclTree). Contains (instances z) j) same has in
              in_cluster was there (sym (cluster_same f was) ∙ ap is_cluster (sym same) ∙ cluster) (declared_other f e m c was there) at_all (in_instances was j at_all)
          by (new number same) = none_in j (subst (λ (z : DeclTree). Contains (instances z) j) same has)
