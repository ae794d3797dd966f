-- The classes of a ring: their names and parents are as they should be, and nothing is declared twice.
use Rattle.std.proofs.Common.{◌≡◌, refl, sym, ◌∙◌, ap, subst, ℕ, zero, suc, Bool, true, false, List, [], ◌∷◌, map, Some, None, IsTrue, Contains, bytes_eq}
use Rattle.std.specs.Option.{option_map_or}
use Rattle.std.specs.List.{list_all}
use Rattle.std.proofs.lemmas.Bool.{and_parts, both_ways}
use Rattle.std.proofs.lemmas.Slice.Eq.{bytes_eq-Decides}
use Rattle.pz_classes_rules.specs.pz_syntax.declared.tokens.Pos.{Pos}
use Rattle.pz_classes_rules.specs.pz_syntax.declared.names.Id.{Id}
use Rattle.pz_classes_rules.specs.pz_syntax.declared.classes.Message.{Message}
use Rattle.pz_classes_rules.specs.pz_syntax.declared.clusters.Instance.{Instance}
use Rattle.pz_classes_rules.specs.pz_syntax.declared.clusters.SystemDecl.{SystemDecl}
use Rattle.pz_classes_rules.specs.pz_syntax.Classes.{DeclTree}
use Rattle.pz_classes_mentions.specs.declared.local_scope.LocalScope.{LocalScope}
use Rattle.pz_classes_mentions.specs.Declarations.{parts}
use Rattle.pz_classes_rules.specs.pz_check_violations.declared.violation.Violation.{Violation}
use Rattle.pz_classes_rules.specs.Numbers.{declared_name, declaration}
use Rattle.pz_classes_rules.specs.Ancestors.{extended, parent}
use Rattle.pz_classes_rules.specs.Members.{fields, variables, ports, spelled}
use Rattle.pz_classes_rules.specs.Instances.{instances}
use Rattle.pz_classes_rules.specs.Violations.{breaks_c1, breaks_c2, Violates, c1, c2, c3}
use Rattle.pz_classes_rules.specs.CallRules.{own_messages}
use Rattle.pz_classes_rules.specs.RepeatRules.{RepeatsName, same_name, Heading, headings, same_heading, same_message, BreaksC4, again_field, again_variable, again_port, again_local, again_instance, again_method, again_message}
use Rattle.pz_gen_laws.specs.devices.RingTree.{with_system}
use Rattle.pz_gen_laws.specs.devices.RingParts.{part_name, instances_in, AreDistinct}
use Rattle.pz_gen_laws.proofs.Distinct.{none_some, no_repeat, distinct_bytes, are_distinct}
use Rattle.pz_gen_laws.proofs.Declared.{by_number, passes, passes_in}

module _ where
  same_bytes : (x y : List ℕ) → bytes_eq x y ≡ true → x ≡ y
  same_bytes x y = (bytes_eq-Decides x y).0

  no_name_twice : (xs : List Id) (y : Id) → AreDistinct (spelled xs) → RepeatsName xs y → ⊥
  no_name_twice xs y distinct = no_repeat same_name (λ (x : Id). x.pos) (λ (x : Id). x.name) (λ x z same. same_bytes x.name z.name same) xs y distinct

  heading_name : Heading → List ℕ
  heading_name h = h.signature.name

  heading_key : (x y : Heading) → IsTrue (same_heading x y) → heading_name x ≡ heading_name y
  unfolding heading_name
  heading_key x y same = same_bytes _ _ (and_parts _ _ same).1

  message_port : Message → List ℕ
  message_port x = x.port.name

  message_key : (x y : Message) → IsTrue (same_message x y) → message_port x ≡ message_port y
  unfolding message_port
  message_key x y same = same_bytes _ _ (and_parts _ _ (and_parts _ _ (and_parts _ _ same).0).0).0

  ids_spelled : (is : List Instance) → map part_name is ≡ spelled (map (λ (i : Instance). i.name) is)
  ids_spelled [] = refl
  ids_spelled (i ∷ is) = ap (λ (l : List (List ℕ)). part_name i ∷ l) (ids_spelled is)

  locals_apart : LocalScope → Bool
  locals_apart p = distinct_bytes (spelled p.locals)

module _ (at : ℕ → Pos) (s : SystemDecl) where
  pub no_class : (v : Violation) → Violates (with_system at s) v → ⊥
  no_class v (c1 c d name declared is breaks) =
      both_ways _ (passes (λ (x : Id). breaks_c1 (with_system at s) c x.name) (declared_name d) name false
      (by_number at s (λ k e. option_map_or (λ (x : Id). breaks_c1 (with_system at s) k x.name) (declared_name e) false ≡ false) refl refl refl c d declared) is) breaks
  no_class v (c2 c d name declared is breaks) =
      both_ways _ (passes (λ (x : Id). breaks_c2 (with_system at s) d x.name) (extended d) name false
      (by_number at s (λ k e. option_map_or (λ (x : Id). breaks_c2 (with_system at s) e x.name) (extended e) false ≡ false) refl refl refl c d declared) is) breaks
  no_class v (c3 c p d name declared is has_parent among) =
      none_some p (sym (by_number at s (λ k e. parent (with_system at s) k ≡ None) refl refl refl c d declared) ∙ has_parent)

  fields_apart : (c : ℕ) → distinct_bytes (spelled (fields (with_system at s) c)) ≡ true
  fields_apart zero = refl
  fields_apart (suc zero) = refl
  fields_apart (suc (suc zero)) = refl
  fields_apart (suc (suc (suc zero))) = refl
  fields_apart (suc (suc (suc (suc c)))) = refl

  variables_apart : (c : ℕ) → distinct_bytes (spelled (variables (with_system at s) c)) ≡ true
  variables_apart zero = refl
  variables_apart (suc zero) = refl
  variables_apart (suc (suc zero)) = refl
  variables_apart (suc (suc (suc zero))) = refl
  variables_apart (suc (suc (suc (suc c)))) = refl

  ports_apart : (c : ℕ) → distinct_bytes (spelled (ports (with_system at s) c)) ≡ true
  ports_apart zero = refl
  ports_apart (suc zero) = refl
  ports_apart (suc (suc zero)) = refl
  ports_apart (suc (suc (suc zero))) = refl
  ports_apart (suc (suc (suc (suc c)))) = refl

  all_locals_apart : (c : ℕ) (d : DeclTree) → declaration (with_system at s) c ≡ Some d → list_all locals_apart (parts d) ≡ true
  unfolding locals_apart
  all_locals_apart = by_number at s (λ k e. list_all locals_apart (parts e) ≡ true) refl refl refl

  methods_apart : (c : ℕ) (d : DeclTree) → declaration (with_system at s) c ≡ Some d → distinct_bytes (map heading_name (headings d)) ≡ true
  unfolding heading_name
  methods_apart = by_number at s (λ k e. distinct_bytes (map heading_name (headings e)) ≡ true) refl refl refl

  messages_apart : (c : ℕ) (d : DeclTree) → declaration (with_system at s) c ≡ Some d → distinct_bytes (map message_port (own_messages d)) ≡ true
  unfolding message_port
  messages_apart = by_number at s (λ k e. distinct_bytes (map message_port (own_messages e)) ≡ true) refl refl refl

  part_locals : (c : ℕ) (d : DeclTree) (p : LocalScope) → declaration (with_system at s) c ≡ Some d → Contains (parts d) p → distinct_bytes (spelled p.locals) ≡ true
  unfolding locals_apart
  part_locals c d p declared there = passes_in locals_apart (parts d) p (all_locals_apart c d declared) there

  module _ (names : AreDistinct (map part_name (instances_in s))) where
    instances_apart : (c : ℕ) (d : DeclTree) → declaration (with_system at s) c ≡ Some d → AreDistinct (map part_name (instances d))
    instances_apart = by_number at s (λ k e. AreDistinct (map part_name (instances e))) tt tt names

    pub nothing_twice : (v : Violation) → BreaksC4 (with_system at s) v → ⊥
    nothing_twice v (again_field c y again) = no_name_twice _ y (are_distinct _ (fields_apart c)) again
    nothing_twice v (again_variable c y again) = no_name_twice _ y (are_distinct _ (variables_apart c)) again
    nothing_twice v (again_port c y again) = no_name_twice _ y (are_distinct _ (ports_apart c)) again
    nothing_twice v (again_local c d p y declared there again) = no_name_twice p.locals y (are_distinct _ (part_locals c d p declared there)) again
    nothing_twice v (again_instance c d y declared again) = no_name_twice (map (λ (i : Instance). i.name) (instances d)) y (subst AreDistinct (ids_spelled (instances d)) (instances_apart c d declared)) again
    nothing_twice v (again_method c d y declared again) = no_repeat same_heading (λ (x : Heading). x.name.pos) heading_name heading_key (headings d) y (are_distinct _ (methods_apart c d declared)) again
    nothing_twice v (again_message c d y declared again) = no_repeat same_message (λ (x : Message). x.name.pos) message_port message_key (own_messages d) y (are_distinct _ (messages_apart c d declared)) again
