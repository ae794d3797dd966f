-- What is found at one class of the walk.
use Rattle.std.proofs.Common.{◌≡◌, refl, sym, ap, subst, ◌∙◌, ℕ, suc, Bor, List, ◌∷◌, map, Some, slice_get}
use Rattle.std.specs.List.{flat_map}
use Rattle.std.specs.Str.{bytes_eq}
use Rattle.std.proofs.lemmas.List.Folds.{flat_map-map}
use Rattle.pz_classes_code.specs.pz_syntax.declared.names.Id.{Id}
use Rattle.pz_classes_code.specs.pz_syntax.declared.clusters.Instance.{Instance}
use Rattle.pz_classes_code.specs.pz_syntax.Classes.{DeclTree, ModelTree}
use Rattle.pz_classes_lineage.specs.declared.visit.Visit.{Visit}
use Rattle.pz_classes_lineage.specs.Preorder.{outermost}
use Rattle.pz_classes.specs.pz_check_violations.Least.{listed}
use Rattle.pz_classes.specs.pz_classes_rules.Ancestors.{ancestors}
use Rattle.pz_classes.specs.pz_classes_rules.Members.{spelled, own_ports, ports}
use Rattle.pz_classes.specs.pz_classes_rules.Words.{is_among}
use Rattle.pz_classes.specs.pz_classes_rules.Instances.{own_parameters, parameters}
use Rattle.pz_classes.specs.pz_classes_rules.InstanceRules.{given_names}
use Rattle.pz_classes.specs.pz_classes_rules.Preorder.{IsPreorderOf}
use Rattle.pz_check_instances.specs.declared.channel_ends.Asked.{Asked}
use Rattle.pz_check_instances.specs.declared.open_names.OpenNames.{OpenNames}
use Rattle.pz_check_instances.specs.devices.NameSets.{has_name}
use Rattle.pz_check_instances.specs.devices.Open.{HasOpen, kept}
use Rattle.pz_check_instances.specs.devices.Given.{lacking, of_class, all_instances, ill_given_of, ill_given_in}
use Rattle.pz_check_instances.specs.devices.Search.{wanted}
use Rattle.pz_check_instances.specs.devices.Ends.{Wanted, absent, absent_of, absent_in, over, wanted_at}
use Rattle.pz_check_instances.proofs.NameLists.{any_map}
use Rattle.pz_check_instances.proofs.Kept.{kept_distinct}
use Rattle.pz_check_instances.proofs.Line.{line_after, own_names, scopes_of, scopes_next, scopes_at, kept_same}
use Rattle.pz_check_instances.proofs.Contained.{same_each}
use Rattle.pz_check_instances.proofs.GivenEach.{gives_is}

module _ (m : ModelTree) where
  -- the classes that are open after one more visit
  pub opened_next : (own : DeclTree → List Id) (visits : List Visit) (i j : ℕ) (v : Visit) (names : List (List ℕ)) (opened : OpenNames)
      → IsPreorderOf m visits → slice_get visits i ≡ Some v → j ≡ suc i → names ≡ own_names m own v.class
      → HasOpen (names ∷ outermost v.depth (scopes_of m own (line_after m visits i))) opened → HasOpen (scopes_of m own (line_after m visits j)) opened
  opened_next own visits i j v names opened preorder at after declared opens =
      let same : (names ∷ outermost v.depth (scopes_of m own (line_after m visits i))) ≡ scopes_of m own (line_after m visits j) =
      rw (declared, after) (scopes_next m own visits i v preorder.nested at) in
      subst (λ (scopes : List (List (List ℕ))). HasOpen scopes opened) same opens

  -- and their names
  pub names_at : (own : DeclTree → List Id) (visits : List Visit) (i j : ℕ) (v : Visit) (names : List (List ℕ)) → slice_get visits i ≡ Some v → j ≡ suc i
      → names ≡ kept (scopes_of m own (line_after m visits j)) → names ≡ kept (scopes_of m own (ancestors m v.class))
  names_at own visits i j v names at after is =
      let same : scopes_of m own (line_after m visits j) ≡ scopes_of m own (ancestors m v.class) = rw after (scopes_at m own visits i v at) in
      is ∙ ap kept same

  pub ill_here : (c : ℕ) (names : List (List ℕ)) (row : List (Bor Instance)) → names ≡ kept (scopes_of m own_parameters (ancestors m c))
      → map (λ i. i.now) row ≡ of_class m c (all_instances m) → flat_map (λ i. lacking names i.now) row ≡ ill_given_in m c
  ill_here c names row is listed =
      sym (flat_map-map (lacking names) (λ (i : Bor Instance). i.now) row)
      ∙ ap (λ (is : List Instance). flat_map (lacking names) is) listed
      ∙ same_each (lacking names) (ill_given_of m c) one (of_class m c (all_instances m))
    where
      scopes : List (List (List ℕ))
      scopes = scopes_of m own_parameters (ancestors m c)

      one : (i : Instance) → lacking names i ≡ ill_given_of m c i
      one i = rw (is, gives_is (given_names i) (kept scopes) (spelled (parameters m c)) (kept_distinct scopes) (kept_same m own_parameters c)) refl

  pub absent_here : (c : ℕ) (names : List (List ℕ)) (row : List Asked) → names ≡ kept (scopes_of m own_ports (ancestors m c))
      → map wanted row ≡ over (wanted_at m c) 1 m.decls → flat_map (λ a. absent names (wanted a)) row ≡ absent_in m c
  absent_here c names row is asked =
      sym (flat_map-map (absent names) wanted row)
      ∙ ap (λ (ws : List Wanted). flat_map (absent names) ws) asked
      ∙ same_each (absent names) (absent_of m c) one (over (wanted_at m c) 1 m.decls)
    where
      has : (q : List ℕ) → has_name names q ≡ is_among (ports m c) q
      has q = ap (λ (l : List (List ℕ)). has_name l q) is ∙ kept_same m own_ports c q ∙ sym (any_map (bytes_eq q) (λ (x : Id). x.name) (ports m c))

      one : (w : Wanted) → absent names w ≡ absent_of m c w
      one w = rw (has w.port) refl
