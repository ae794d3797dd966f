-- The list of the violations of C4 has only those of the rule, and none of the rule is before all of
-- them.
use Rattle.std.proofs.Common.{◌≡◌, refl, subst, ℕ, zero, suc, List, [], ◌++◌, length, map, Option, Some, None, ◌⊎◌, inl, inr}
use Rattle.std.specs.List.{Contains, flat_map}
use Rattle.pz_classes.specs.pz_syntax.declared.names.Id.{Id}
use Rattle.pz_classes.specs.pz_syntax.declared.clusters.Instance.{Instance}
use Rattle.pz_classes.specs.pz_syntax.Classes.{DeclTree, ModelTree}
use Rattle.pz_classes_mentions.specs.Declarations.{parts}
use Rattle.pz_check_violations.specs.declared.violation.Violation.{Violation}
use Rattle.pz_check_violations.specs.Order.{violation}
use Rattle.pz_check_violations.specs.Least.{LeastOf, least_from, Member}
use Rattle.pz_check_violations.proofs.Members.{member_left, member_right, member_cases}
use Rattle.pz_classes_lineage.specs.declared.visit.Visit.{Visit}
use Rattle.pz_classes.specs.pz_classes_rules.Numbers.{declaration}
use Rattle.pz_classes.specs.pz_classes_rules.Ancestors.{parent, followed, ancestors}
use Rattle.pz_classes.specs.pz_classes_rules.Preorder.{IsPreorderOf}
use Rattle.pz_classes.specs.pz_classes_rules.CallRules.{own_messages}
use Rattle.pz_classes.specs.pz_classes_rules.Instances.{instances}
use Rattle.pz_classes.specs.pz_classes_rules.RepeatRules.{RepeatsName, same_name, headings, same_heading, same_message, BreaksC4, again_field, again_variable, again_port, again_local, again_instance, again_method, again_message}
use Rattle.pz_check_duplicates.specs.declared.inherited.Inherited.{Inherited}
use Rattle.pz_check_duplicates.specs.declared.inherited.Inherited.TheVariants.{Fields, Variables, Ports}
use Rattle.pz_check_duplicates.specs.devices.Again.{repeats}
use Rattle.pz_check_duplicates.specs.devices.Names.{id_place}
use Rattle.pz_check_duplicates.specs.devices.Headings.{heading_place}
use Rattle.pz_check_duplicates.specs.devices.Signals.{message_place}
use Rattle.pz_check_duplicates.specs.devices.RepeatList.{of_line, of_visits, of_names, of_part, of_parts, of_own, all_repeats}
use Rattle.pz_check_duplicates.proofs.Lists.{none_in, flat_member, member_flat, at_place}
use Rattle.pz_check_duplicates.proofs.Repeated.{At}
use Rattle.pz_classes.proofs.pz_classes_rules_proofs.Turned.{names_turned, headings_turned, messages_turned}
use Rattle.pz_check_duplicates.proofs.Declared.{number_of, among_declared, declared_within}
use Rattle.pz_check_duplicates.proofs.LeastCovering.{NotBehind, least_covering}
use Rattle.pz_check_duplicates.proofs.Covering.{found_sound, covers_none, covers_all}
use Rattle.pz_check_duplicates.proofs.Visiting.{names_on, line_sound, covers_visited}

module _ (m : ModelTree) where
  own_sound : (c : ℕ) (d : DeclTree) (v : Violation) → declaration m c ≡ Some d → Member v (of_own d) → BreaksC4 m v
  own_sound c d v here found = by_part (member_cases v locals (named ++ (methods ++ messages)) found)
    where
      locals : List Violation
      locals = of_parts (parts d)

      named : List Violation
      named = of_names (map (λ (i : Instance). i.name) (instances d))

      methods : List Violation
      methods = repeats same_heading heading_place 4 (headings d)

      messages : List Violation
      messages = repeats same_message message_place 4 (own_messages d)

      by_method : Member v methods ⊎ Member v messages → BreaksC4 m v
      by_method (inl at) = let r = found_sound same_heading heading_place 4 headings_turned [] (headings d) v at in subst (BreaksC4 m) r.is (again_method c d r.again here r.repeat)
      by_method (inr at) = let r = found_sound same_message message_place 4 messages_turned [] (own_messages d) v at in subst (BreaksC4 m) r.is (again_message c d r.again here r.repeat)

      by_instance : Member v named ⊎ Member v (methods ++ messages) → BreaksC4 m v
      by_instance (inl at) = let r = found_sound same_name id_place 4 names_turned [] (map (λ (i : Instance). i.name) (instances d)) v at in subst (BreaksC4 m) r.is (again_instance c d r.again here r.repeat)
      by_instance (inr at) = by_method (member_cases v methods messages at)

      by_part : Member v locals ⊎ Member v (named ++ (methods ++ messages)) → BreaksC4 m v
      by_part (inl at) =
          let h = flat_member of_part (parts d) v at in
          let r = found_sound same_name id_place 4 names_turned [] h.element.locals v h.has in
          subst (BreaksC4 m) r.is (again_local c d h.element r.again here h.element_in r.repeat)
      by_part (inr at) = by_instance (member_cases v named (methods ++ messages) at)

module _ (m : ModelTree) (visits : List Visit) where
  -- the names of a class and its ancestors
  record Inherits (sort : Inherited) (v : Violation) : Type 0 where
    pub class : ℕ
    pub repeat : At same_name id_place 4 (names_on m sort (ancestors m class)) v

  inherited_sound : (sort : Inherited) (v : Violation) → Member v (of_visits m sort visits) → Inherits sort v
  inherited_sound sort v found =
      let h = flat_member (λ (w : Visit). of_line m sort (ancestors m w.class)) visits v found in
      record { class = h.element.class; repeat = line_sound m sort (ancestors m h.element.class) v h.has }

  each_sound : (v : Violation) → Member v (flat_map of_own m.decls) → BreaksC4 m v
  each_sound v found =
      let h = flat_member of_own m.decls v found in
      let n = number_of m h.element h.element_in in
      own_sound m n.number h.element v n.declared h.has

  sound : (v : Violation) → Member v (all_repeats m visits) → BreaksC4 m v
  sound v found = by_field (member_cases v (of_visits m Fields visits) (of_visits m Variables visits ++ (of_visits m Ports visits ++ flat_map of_own m.decls)) found)
    where
      by_port : Member v (of_visits m Ports visits) ⊎ Member v (flat_map of_own m.decls) → BreaksC4 m v
      by_port (inl at) = let r = inherited_sound Ports v at in subst (BreaksC4 m) r.repeat.is (again_port r.class r.repeat.again r.repeat.repeat)
      by_port (inr at) = each_sound v at

      by_variable : Member v (of_visits m Variables visits) ⊎ Member v (of_visits m Ports visits ++ flat_map of_own m.decls) → BreaksC4 m v
      by_variable (inl at) = let r = inherited_sound Variables v at in subst (BreaksC4 m) r.repeat.is (again_variable r.class r.repeat.again r.repeat.repeat)
      by_variable (inr at) = by_port (member_cases v (of_visits m Ports visits) (flat_map of_own m.decls) at)

      by_field : Member v (of_visits m Fields visits) ⊎ Member v (of_visits m Variables visits ++ (of_visits m Ports visits ++ flat_map of_own m.decls)) → BreaksC4 m v
      by_field (inl at) = let r = inherited_sound Fields v at in subst (BreaksC4 m) r.repeat.is (again_field r.class r.repeat.again r.repeat.repeat)
      by_field (inr at) = by_variable (member_cases v (of_visits m Variables visits) (of_visits m Ports visits ++ flat_map of_own m.decls) at)

module _ (m : ModelTree) (visits : List Visit) (walk : IsPreorderOf m visits) where
  -- of a class with no declaration there is nothing
  none_on : (sort : Inherited) (c n : ℕ) → declaration m c ≡ None → names_on m sort (followed (parent m) n c) ≡ []
  none_on sort c zero none = refl
  none_on sort c (suc n) none = rw none refl

  none_repeats : (sort : Inherited) (c : ℕ) (y : Id) → declaration m c ≡ None → RepeatsName (names_on m sort (ancestors m c)) y → ⊥
  none_repeats sort c y none r = none_in y (subst (λ (xs : List Id). Contains xs y) (none_on sort c (suc (length m.decls)) none) (at_place (names_on m sort (ancestors m c)) r.again_at y r.again_there))

  -- wherever names of a class repeat, the class is declared, and the walk comes to it
  at_inherited : (sort : Inherited) (c : ℕ) (y : Id) → ((v : Violation) → Member v (of_visits m sort visits) → Member v (all_repeats m visits))
      → RepeatsName (names_on m sort (ancestors m c)) y → NotBehind (all_repeats m visits) (violation 4 y.pos)
  at_inherited sort c y given r = by_decl (declaration m c) refl
    where
      by_decl : (o : Option DeclTree) → declaration m c ≡ o → NotBehind (all_repeats m visits) (violation 4 y.pos)
      by_decl None is = absurd (none_repeats sort c y is r)
      by_decl (Some d) is = covers_visited m sort (all_repeats m visits) visits [] walk.nested given (covers_none same_name id_place 4 names_turned (all_repeats m visits)) c (walk.whole c (declared_within m c d is)) y r

  in_own : (c : ℕ) (d : DeclTree) (v : Violation) → declaration m c ≡ Some d → Member v (of_own d) → Member v (all_repeats m visits)
  in_own c d v here found =
      member_right v (of_visits m Fields visits) (of_visits m Variables visits ++ (of_visits m Ports visits ++ flat_map of_own m.decls))
      (member_right v (of_visits m Variables visits) (of_visits m Ports visits ++ flat_map of_own m.decls)
      (member_right v (of_visits m Ports visits) (flat_map of_own m.decls)
      (member_flat of_own m.decls d v (among_declared m c d here) found)))

  -- the names of a list that stands in a declaration
  at_names : (ids : List Id) (y : Id) → ((v : Violation) → Member v (of_names ids) → Member v (all_repeats m visits)) → RepeatsName ids y → NotBehind (all_repeats m visits) (violation 4 y.pos)
  at_names ids y given r = covers_all same_name id_place 4 names_turned (all_repeats m visits) ids given y r

  complete : (v : Violation) → BreaksC4 m v → NotBehind (all_repeats m visits) v
  complete _ (again_field c y r) = at_inherited Fields c y (λ v found. member_left v (of_visits m Fields visits) _ found) r
  complete _ (again_variable c y r) =
      at_inherited Variables c y (λ v found. member_right v (of_visits m Fields visits) _ (member_left v (of_visits m Variables visits) _ found)) r
  complete _ (again_port c y r) =
      at_inherited Ports c y (λ v found. member_right v (of_visits m Fields visits) _ (member_right v (of_visits m Variables visits) _ (member_left v (of_visits m Ports visits) (flat_map of_own m.decls) found))) r
  complete _ (again_local c d p y here among r) =
      at_names p.locals y (λ v found. in_own c d v here (member_left v (of_parts (parts d)) _ (member_flat of_part (parts d) p v among found))) r
  complete _ (again_instance c d y here r) =
      at_names (map (λ (i : Instance). i.name) (instances d)) y
      (λ v found. in_own c d v here (member_right v (of_parts (parts d)) _ (member_left v (of_names (map (λ (i : Instance). i.name) (instances d))) _ found))) r
  complete _ (again_method c d y here r) =
      covers_all same_heading heading_place 4 headings_turned (all_repeats m visits) (headings d)
      (λ v found. in_own c d v here (member_right v (of_parts (parts d)) _ (member_right v (of_names (map (λ (i : Instance). i.name) (instances d))) _ (member_left v (repeats same_heading heading_place 4 (headings d)) _ found)))) y r
  complete _ (again_message c d y here r) =
      covers_all same_message message_place 4 messages_turned (all_repeats m visits) (own_messages d)
      (λ v found. in_own c d v here (member_right v (of_parts (parts d)) _ (member_right v (of_names (map (λ (i : Instance). i.name) (instances d))) _ (member_right v (repeats same_heading heading_place 4 (headings d)) _ found)))) y r

-- what the search for the least finds
pub least_found : (m : ModelTree) (visits : List Visit) → IsPreorderOf m visits → LeastOf (BreaksC4 m) (least_from None (all_repeats m visits))
least_found m visits walk = least_covering (BreaksC4 m) (all_repeats m visits) (sound m visits) (complete m visits walk)
