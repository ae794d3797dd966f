-- C4 in a grown model.
use Rattle.std.proofs.Common.{◌≡◌, ◌≢◌, refl, sym, ap, subst, ◌∙◌, ℕ, suc, List, [], ◌∷◌, ◌++◌, map, length, Some, IsTrue, ◌⊎◌, inl, inr, ⊎_elim}
use Rattle.std.specs.List.{Contains}
use Rattle.std.proofs.lemmas.Bool.{cases_eq}
use Rattle.std.proofs.lemmas.List.{map-append}
use Rattle.pz_env_tree.specs.pz_syntax.declared.names.Id.{Id}
use Rattle.pz_env_tree.specs.pz_syntax.declared.classes.Message.{Message}
use Rattle.pz_env_tree.specs.pz_syntax.declared.clusters.Instance.{Instance}
use Rattle.pz_env_tree.specs.pz_syntax.declared.clusters.SystemDecl.{SystemDecl}
use Rattle.pz_env_tree.specs.pz_syntax.Classes.{DeclTree, ProcessClassTree, data_class, process_class, cluster_class, system, ModelTree}
use Rattle.pz_classes_mentions.specs.declared.local_scope.LocalScope.{LocalScope}
use Rattle.pz_classes_mentions.specs.Declarations.{parts, system_part}
use Rattle.pz_env_tree.specs.pz_check_violations.declared.violation.Violation.{Violation}
use Rattle.pz_env_tree.specs.pz_check_violations.Order.{violation}
use Rattle.pz_env_tree.specs.pz_classes_rules.Numbers.{declaration}
use Rattle.pz_env_tree.specs.pz_classes_rules.Reached.{AncestorsAreReached}
use Rattle.pz_env_tree.specs.pz_classes_rules.Members.{own_variables, own_ports, fields, variables, ports}
use Rattle.pz_env_tree.specs.pz_classes_rules.Instances.{instances}
use Rattle.pz_env_tree.specs.pz_classes_rules.CallRules.{own_messages}
use Rattle.pz_env_tree.specs.pz_classes_rules.RepeatRules.{Repeats, same_name, RepeatsName, Heading, headings, same_heading, same_message, BreaksC4, again_field, again_variable, again_port, again_local, again_instance, again_method, again_message}
use Rattle.pz_env_tree.specs.pz_classes_rules.Soundness.{IsSound, a_repeat}
use Rattle.pz_env_grown.proofs.Elements.{none_in, in_cases}
use Rattle.pz_env_sound.proofs.Grown.{grown_decl, grown, IsDeclared, old, new, declared}
use Rattle.pz_env_sound.proofs.Members.{messages_kept, fields_same, variables_same, ports_same, fields_new, variables_new, ports_new}
use Rattle.pz_env_sound.proofs.NewParts.{IsFresh, Gains}
use Rattle.pz_env_sound.proofs.RepeatsInParts.{in_parts, none_repeats, one_repeats}

-- nothing is declared twice in the class
pub record IsApart (e : ProcessClassTree) : Type 0 where
  pub variables : (y : Id) → RepeatsName (own_variables (process_class e)) y → ⊥
  pub ports : (y : Id) → RepeatsName (own_ports (process_class e)) y → ⊥
  pub locals : (p : LocalScope) → Contains (parts (process_class e)) p → (y : Id) → RepeatsName p.locals y → ⊥
  pub methods : (y : Heading) → Repeats same_heading (λ x. x.name.pos) (headings (process_class e)) y → ⊥
  pub messages : (y : Message) → Repeats same_message (λ x. x.name.pos) (own_messages (process_class e)) y → ⊥

headings_kept : (f : SystemDecl → SystemDecl) (d : DeclTree) → headings (grown_decl f d) ≡ headings d
headings_kept f (data_class c) = refl
headings_kept f (process_class c) = refl
headings_kept f (cluster_class c) = refl
headings_kept f (system s) = refl

module _ (f : SystemDecl → SystemDecl) (e : ProcessClassTree) (i : Instance) (m : ModelTree) (sound : IsSound m)
    (reached : AncestorsAreReached) (fresh : IsFresh m e) (gains : Gains f e i) (is_apart : IsApart e) where
  breaks_m : (v : Violation) → BreaksC4 m v → ⊥
  breaks_m v wrong = sound.rules v (a_repeat v wrong)

  -- among what a class and its ancestors have
  in_class : (has : ModelTree → ℕ → List Id) → ((c : ℕ) → c ≢ suc (length m.decls) → has (grown m f e) c ≡ has m c) → (own : List Id)
      → has (grown m f e) (suc (length m.decls)) ≡ own → (y : Id)
      → (RepeatsName own y → ⊥) → ((c : ℕ) → RepeatsName (has m c) y → ⊥) → (c : ℕ) → RepeatsName (has (grown m f e) c) y → ⊥
  in_class has same own is_new y none never c again = by (cases_eq c (suc (length m.decls)))
    where
      by : (c ≡ suc (length m.decls)) ⊎ (c ≢ suc (length m.decls)) → ⊥
      by (inl number) = none (subst (λ (ids : List Id). RepeatsName ids y) (ap (has (grown m f e)) number ∙ is_new) again)
      by (inr other) = never c (subst (λ (ids : List Id). RepeatsName ids y) (same c other) again)

  part_locals : (c : ℕ) (was : DeclTree) → declaration m c ≡ Some was → (p : LocalScope) (y : Id) → Contains (parts (grown_decl f was)) p
      → RepeatsName p.locals y → ⊥
  part_locals c (data_class d) there p y has again = breaks_m (violation 4 y.pos) (again_local c (data_class d) p y there has again)
  part_locals c (process_class d) there p y has again = breaks_m (violation 4 y.pos) (again_local c (process_class d) p y there has again)
  part_locals c (cluster_class d) there p y has again = breaks_m (violation 4 y.pos) (again_local c (cluster_class d) p y there has again)
  part_locals c (system s) there p y has again =
      ⊎_elim
      (λ same. none_repeats same_name (λ (x : Id). x.pos) y (subst (λ (q : LocalScope). RepeatsName q.locals y) (sym same) again))
      (none_in p)
      (in_cases (system_part (f s)) [] p has)

  module _
      (free : (c : ℕ) (s : SystemDecl) → declaration m c ≡ Some (system s) → (x : Id) → Contains (map (λ (j : Instance). j.name) (instances (system s))) x → (IsTrue (same_name x i.name) → ⊥) × (IsTrue (same_name i.name x) → ⊥)) where
    pub names_of : Instance → Id
    names_of j = j.name

    in_system : (c : ℕ) (s : SystemDecl) → declaration m c ≡ Some (system s) → (y : Id)
        → RepeatsName (map (λ (j : Instance). j.name) (instances (system (f s)))) y → ⊥
    in_system c s there y again =
        by (in_parts same_name (λ (x : Id). x.pos) (map (λ (j : Instance). j.name) (instances (system s))) (i.name ∷ []) y across back split)
      where
        split : RepeatsName (map (λ (j : Instance). j.name) (instances (system s)) ++ i.name ∷ []) y
        split =
            subst (λ (xs : List Id). RepeatsName xs y) (ap (map (λ (j : Instance). j.name)) (gains.instances s) ∙ map-append (λ (j : Instance). j.name) (instances (system s)) (i ∷ [])) again

        is_last : (b : Id) → Contains (i.name ∷ []) b → i.name ≡ b
        is_last b at = ⊎_elim (λ same. same) (λ none. absurd (none_in b none)) (in_cases i.name [] b at)

        across : (a b : Id) → Contains (map (λ (j : Instance). j.name) (instances (system s))) a → Contains (i.name ∷ []) b
            → IsTrue (same_name a b) → ⊥
        across a b in_a in_b same = (free c s there a in_a).0 (subst (λ (z : Id). IsTrue (same_name a z)) (sym (is_last b in_b)) same)

        back : (a b : Id) → Contains (map (λ (j : Instance). j.name) (instances (system s))) a → Contains (i.name ∷ []) b
            → IsTrue (same_name b a) → ⊥
        back a b in_a in_b same = (free c s there a in_a).1 (subst (λ (z : Id). IsTrue (same_name z a)) (sym (is_last b in_b)) same)

        by : RepeatsName (map (λ (j : Instance). j.name) (instances (system s))) y ⊎ RepeatsName (i.name ∷ []) y → ⊥
        by (inl before) = breaks_m (violation 4 y.pos) (again_instance c (system s) y there before)
        by (inr one) = one_repeats same_name (λ (x : Id). x.pos) i.name y one

    in_level : (c : ℕ) (was : DeclTree) → declaration m c ≡ Some was → (y : Id)
        → RepeatsName (map (λ (j : Instance). j.name) (instances (grown_decl f was))) y → ⊥
    in_level c (data_class d) there y again = none_repeats same_name (λ (x : Id). x.pos) y again
    in_level c (process_class d) there y again = none_repeats same_name (λ (x : Id). x.pos) y again
    in_level c (cluster_class d) there y again = breaks_m (violation 4 y.pos) (again_instance c (cluster_class d) y there again)
    in_level c (system s) there y again = in_system c s there y again

    pub no_repeat : (v : Violation) → BreaksC4 (grown m f e) v → ⊥
    no_repeat _ (again_field c y again) =
        in_class fields (fields_same f e m sound reached) [] (fields_new f e m sound reached fresh.alone) y (none_repeats same_name (λ (x : Id). x.pos) y)
        (λ k at. breaks_m (violation 4 y.pos) (again_field k y at)) c again
    no_repeat _ (again_variable c y again) =
        in_class variables (variables_same f e m sound reached) (own_variables (process_class e)) (variables_new f e m sound reached fresh.alone) y (is_apart.variables y)
        (λ k at. breaks_m (violation 4 y.pos) (again_variable k y at)) c again
    no_repeat _ (again_port c y again) =
        in_class ports (ports_same f e m sound reached) (own_ports (process_class e)) (ports_new f e m sound reached fresh.alone) y (is_apart.ports y)
        (λ k at. breaks_m (violation 4 y.pos) (again_port k y at)) c again
    no_repeat _ (again_local c d p y at has again) = by (declared f e m c d at)
      where
        by : IsDeclared f e m c d → ⊥
        by (old was there same) = part_locals c was there p y (subst (λ (z : DeclTree). Contains (parts z) p) same has) again
        by (new number same) = is_apart.locals p (subst (λ (z : DeclTree). Contains (parts z) p) same has) y again
    no_repeat _ (again_instance c d y at again) = by (declared f e m c d at)
      where
        by : IsDeclared f e m c d → ⊥
        by (old was there same) = in_level c was there y (subst (λ (z : DeclTree). RepeatsName (map (λ (j : Instance). j.name) (instances z)) y) same again)
        by (new number same) =
            none_repeats same_name (λ (x : Id). x.pos) y (subst (λ (z : DeclTree). RepeatsName (map (λ (j : Instance). j.name) (instances z)) y) same again)
    no_repeat _ (again_method c d y at again) = by (declared f e m c d at)
      where
        by : IsDeclared f e m c d → ⊥
        by (old was there same) =
            breaks_m (violation 4 y.name.pos) (again_method c was y there (subst (λ (hs : List Heading). Repeats same_heading (λ x. x.name.pos) hs y) (ap headings same ∙ headings_kept f was) again))
        by (new number same) = is_apart.methods y (subst (λ (z : DeclTree). Repeats same_heading (λ x. x.name.pos) (headings z) y) same again)
    no_repeat _ (again_message c d y at again) = by (declared f e m c d at)
      where
        by : IsDeclared f e m c d → ⊥
        by (old was there same) =
            breaks_m (violation 4 y.name.pos) (again_message c was y there (subst (λ (xs : List Message). Repeats same_message (λ x. x.name.pos) xs y) (ap own_messages same ∙ messages_kept f was) again))
        by (new number same) = is_apart.messages y (subst (λ (z : DeclTree). Repeats same_message (λ x. x.name.pos) (own_messages z) y) same again)
