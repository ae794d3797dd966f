-- The list of violations of C16 has those of the rule and no others.
use Rattle.std.proofs.Common.{◌≡◌, refl, sym, ap, subst, ◌∙◌, ℕ, zero, suc, ◌+◌, ◌≤◌, arith, Bool, true, false, not, nat_eq, IsTrue, List, [], ◌∷◌, ◌++◌, length, Option, Some, None, slice_get, ◌⊎◌, inl, inr}
use Rattle.std.specs.List.{Contains, flat_map}
use Rattle.std.specs.Option.{option_map_or}
use Rattle.std.proofs.lemmas.Bool.Decides.{nat_tests}
use Rattle.std.proofs.lemmas.List.Elements.{Contains-append_left, Contains-append_right, Contains-append_cases}
use Rattle.pz_classes_code.specs.pz_syntax.declared.clusters.Instance.{Instance}
use Rattle.pz_classes_code.specs.pz_syntax.declared.clusters.ChannelEnd.{ChannelEnd}
use Rattle.pz_classes_code.specs.pz_syntax.declared.clusters.ChannelEnd.TheVariants.{Inner, Outer}
use Rattle.pz_classes_code.specs.pz_syntax.Classes.{DeclTree, ModelTree}
use Rattle.pz_classes_lineage.specs.declared.visit.Visit.{Visit}
use Rattle.pz_classes.specs.pz_check_violations.declared.violation.Violation.{Violation}
use Rattle.pz_classes.specs.pz_check_violations.Order.{violation}
use Rattle.pz_classes.specs.pz_check_violations.Least.{LeastOf, least_from, Member}
use Rattle.pz_classes.proofs.pz_check_violations_proofs.Members.{listed_is, is_listed}
use Rattle.pz_classes.proofs.pz_check_violations_proofs.Leasts as leasts
use Rattle.pz_classes.specs.pz_classes_rules.Numbers.{declaration}
use Rattle.pz_classes.specs.pz_classes_rules.Members.{ports}
use Rattle.pz_classes.specs.pz_classes_rules.Kinds.{is_cluster}
use Rattle.pz_classes.specs.pz_classes_rules.Words.{is_among}
use Rattle.pz_classes.specs.pz_classes_rules.Instances.{instance_class}
use Rattle.pz_classes.specs.pz_classes_rules.ChannelRules.{ends, end_place, has_port, instance_named, breaks_c16, BreaksC16, no_end}
use Rattle.pz_classes.specs.pz_classes_rules.Preorder.{IsPreorderOf}
use Rattle.pz_check_instances.specs.declared.needs.Need.{Need}
use Rattle.pz_check_instances.specs.declared.needs.Need.TheVariants.{Nothing, Port, Missing}
use Rattle.pz_check_instances.specs.devices.Needs.{need, need_of_instance}
use Rattle.pz_check_instances.specs.devices.Ends.{Wanted, end_port, is_missing, is_port_of, missing_at, wanted_at, over, absent_of, absent_in, missing_ends}
use Rattle.pz_check_instances.proofs.Contained.{holder, held, only_one, first_of, in_none, member_contained, contained_member}
use Rattle.pz_check_instances.proofs.Numbered.{declared_within, instance_class_within, visit_of}

module _ (m : ModelTree) where
  -- what is needed is not there
  abbrev unmet : Need → List ℕ → Bool
  unmet Nothing port = false
  unmet (Port k) port = not (is_among (ports m k) port)
  unmet Missing port = true

  breaks_by_need : (c : ℕ) (d : DeclTree) (e : ChannelEnd) → breaks_c16 m c d e ≡ unmet (need m c d e) (end_port e)
  breaks_by_need c d (Inner i port) = by_instance (instance_named d i.name)
    where
      by_class : (o : Option ℕ) → not (option_map_or (λ k. is_among (ports m k) port.name) o true) ≡ unmet (option_map_or (λ k. Port k) o Nothing) port.name
      by_class None = refl
      by_class (Some k) = refl

      by_instance : (o : Option Instance) → not (option_map_or (has_port m port.name) o false) ≡ unmet (option_map_or (need_of_instance m) o Missing) port.name
      by_instance None = refl
      by_instance (Some j) = by_class (instance_class m j.class.name)
  breaks_by_need c d (Outer port) = by_sort (is_cluster d) refl
    where
      by_sort : (b : Bool) → is_cluster d ≡ b → breaks_c16 m c d (Outer port) ≡ unmet (need m c d (Outer port)) port.name
      by_sort true is = rw is refl
      by_sort false is = rw is refl

  -- the class of a port that is needed is one of the model's
  inner_within : (o : Option Instance) (k : ℕ) → option_map_or (need_of_instance m) o Missing ≡ Port k → k ≤ length m.decls
  inner_within None k is = cc
  inner_within (Some j) k is = by_class (instance_class m j.class.name) refl
    where
      by_class : (o : Option ℕ) → instance_class m j.class.name ≡ o → k ≤ length m.decls
      by_class None at = let none : Nothing ≡ Port k = rw at at is in cc
      by_class (Some n) at =
          let same : Port n ≡ Port k = rw at at is in
          let number : n ≡ k = cc in
          instance_class_within m j.class.name k (at ∙ ap (λ (x : ℕ). Some x) number)

  need_within : (c : ℕ) (d : DeclTree) (e : ChannelEnd) (k : ℕ) → declaration m c ≡ Some d → need m c d e ≡ Port k → k ≤ length m.decls
  need_within c d (Inner i port) k here is = inner_within (instance_named d i.name) k is
  need_within c d (Outer port) k here is = by_sort (is_cluster d) refl
    where
      by_sort : (b : Bool) → is_cluster d ≡ b → k ≤ length m.decls
      by_sort true at =
          let same : Port c ≡ Port k = rw at at is in
          let number : c ≡ k = cc in
          subst (λ (n : ℕ). n ≤ length m.decls) number (declared_within m c d here)
      by_sort false at = let none : Missing ≡ Port k = rw at at is in cc

  -- the declarations from number n on
  abbrev From : ℕ → List DeclTree → Type 0
  From n ds = (i : ℕ) → declaration m (i + n) ≡ slice_get ds i

  from_next : (n : ℕ) (d : DeclTree) (ds : List DeclTree) → From n (d ∷ ds) → From (suc n) ds
  from_next n d ds from i = let same : i + suc n ≡ suc i + n = omega arith in ap (λ (k : ℕ). declaration m k) same ∙ from (suc i)

  from_first : (n : ℕ) (d : DeclTree) (ds : List DeclTree) → From n (d ∷ ds) → declaration m n ≡ Some d
  from_first n d ds from = let same : n ≡ 0 + n = omega arith in ap (λ (k : ℕ). declaration m k) same ∙ from 0

  from_one : From 1 m.decls
  from_one i = let same : i + 1 ≡ suc i = omega arith in ap (λ (k : ℕ). declaration m k) same

  module _ {X : Type 0} (f : ℕ → DeclTree → ChannelEnd → List X) where
    -- what the ends give together is some end's
    record EndHolder (y : X) : Type 0 where
      number : ℕ
      decl : DeclTree
      end : ChannelEnd
      here : declaration m number ≡ Some decl
      among : Contains (ends decl) end
      its : Contains (f number decl end) y

    from_over : (n : ℕ) (ds : List DeclTree) (y : X) → From n ds → Contains (over f n ds) y → EndHolder y
    from_over n [] y from found = absurd (in_none y found)
    from_over n (d ∷ ds) y from found = by_part (from_over (suc n) ds y (from_next n d ds from)) (Contains-append_cases (flat_map (f n d) (ends d)) (over f (suc n) ds) y found)
      where
        by_part : (Contains (over f (suc n) ds) y → EndHolder y) → Contains (flat_map (f n d) (ends d)) y ⊎ Contains (over f (suc n) ds) y → EndHolder y
        by_part rest (inl here) =
            let h = holder (f n d) (ends d) y here in
            record { number = n; decl = d; end = h.element; here = from_first n d ds from; among = h.among; its = h.its }
        by_part rest (inr later) = rest later

    in_over : (n : ℕ) (ds : List DeclTree) (y : X) (i : ℕ) (d : DeclTree) (e : ChannelEnd) → slice_get ds i ≡ Some d → Contains (ends d) e → Contains (f (i + n) d e) y → Contains (over f n ds) y
    in_over n [] y i d e here among its = cc
    in_over n (h ∷ ds) y zero d e here among its =
        let same : 0 + n ≡ n = omega arith in
        let is : h ≡ d = cc in
        let first : Contains (flat_map (f n h) (ends h)) y = rw is (held (f n d) (ends d) e y among (rw same at its)) in
        Contains-append_left (flat_map (f n h) (ends h)) (over f (suc n) ds) y first
    in_over n (h ∷ ds) y (suc i) d e here among its =
        let same : suc i + n ≡ i + suc n = omega arith in
        Contains-append_right (flat_map (f n h) (ends h)) (over f (suc n) ds) y (in_over (suc n) ds y i d e here among (rw same at its))

    at_number : (c : ℕ) (d : DeclTree) (e : ChannelEnd) (y : X) → declaration m c ≡ Some d → Contains (ends d) e → Contains (f c d e) y → Contains (over f 1 m.decls) y
    at_number zero d e y here among its = cc
    at_number (suc i) d e y here among its =
        let same : suc i ≡ i + 1 = omega arith in
        in_over 1 m.decls y i d e here among (rw same at its)

  missing_is : (n : Need) → is_missing n ≡ true → n ≡ Missing
  missing_is Nothing is = cc
  missing_is (Port k) is = cc
  missing_is Missing is = refl

  port_of_is : (n : Need) (k : ℕ) → is_port_of n k ≡ true → n ≡ Port k
  port_of_is Nothing k is = cc
  port_of_is (Port c) k is = let same : c ≡ k = grind (arith, nat_tests) in ap (λ (x : ℕ). Port x) same
  port_of_is Missing k is = cc

  is_it : (k : ℕ) → nat_eq k k ≡ true
  is_it k = grind (arith, nat_tests)

  wanted_is : (k c : ℕ) (d : DeclTree) (e : ChannelEnd) (w : Wanted) → Contains (wanted_at m k c d e) w → (need m c d e ≡ Port k) × (w ≡ record { port = end_port e; place = end_place e })
  wanted_is k c d e w found = by_test (is_port_of (need m c d e) k) refl
    where
      by_test : (b : Bool) → is_port_of (need m c d e) k ≡ b → (need m c d e ≡ Port k) × (w ≡ record { port = end_port e; place = end_place e })
      by_test true is =
          let here : Contains ((record { port = end_port e; place = end_place e }) ∷ []) w = rw is at found in
          (port_of_is (need m c d e) k is, sym (only_one (record { port = end_port e; place = end_place e }) w here))
      by_test false is = let none : Contains {X = Wanted} [] w = rw is at found in absurd (in_none w none)

  sound_missing : (v : Violation) → Contains (over (missing_at m) 1 m.decls) v → BreaksC16 m v
  sound_missing v found =
      let h = from_over (missing_at m) 1 m.decls v from_one found in
      let wrong = listed_is (is_missing (need m h.number h.decl h.end)) (violation 16 (end_place h.end)) v (contained_member v (missing_at m h.number h.decl h.end) h.its) in
      let need_is : need m h.number h.decl h.end ≡ Missing = missing_is (need m h.number h.decl h.end) wrong.0 in
      let breaks : IsTrue (breaks_c16 m h.number h.decl h.end) = breaks_by_need h.number h.decl h.end ∙ ap (λ (n : Need). unmet n (end_port h.end)) need_is in
      subst (BreaksC16 m) wrong.1 (no_end h.number h.decl h.end h.here h.among breaks)

  sound_absent : (k : ℕ) (v : Violation) → Contains (absent_in m k) v → BreaksC16 m v
  sound_absent k v found =
      let one = holder (absent_of m k) (over (wanted_at m k) 1 m.decls) v found in
      let w = one.element in
      let h = from_over (wanted_at m k) 1 m.decls w from_one one.among in
      let is = wanted_is k h.number h.decl h.end w h.its in
      let at_end : Contains (absent_of m k (record { port = end_port h.end; place = end_place h.end })) v = subst (λ (x : Wanted). Contains (absent_of m k x) v) is.1 one.its in
      let wrong = listed_is (not (is_among (ports m k) (end_port h.end))) (violation 16 (end_place h.end)) v (contained_member v _ at_end) in
      let breaks : IsTrue (breaks_c16 m h.number h.decl h.end) = breaks_by_need h.number h.decl h.end ∙ ap (λ (n : Need). unmet n (end_port h.end)) is.0 ∙ wrong.0 in
      subst (BreaksC16 m) wrong.1 (no_end h.number h.decl h.end h.here h.among breaks)

  sound : (visits : List Visit) (v : Violation) → Member v (missing_ends m visits) → BreaksC16 m v
  sound visits v found = by_part (Contains-append_cases (over (missing_at m) 1 m.decls) (flat_map (λ (w : Visit). absent_in m w.class) visits) v (member_contained v (missing_ends m visits) found))
    where
      by_part : Contains (over (missing_at m) 1 m.decls) v ⊎ Contains (flat_map (λ (w : Visit). absent_in m w.class) visits) v → BreaksC16 m v
      by_part (inl here) = sound_missing v here
      by_part (inr there) = let at = holder (λ (w : Visit). absent_in m w.class) visits v there in sound_absent at.element.class v at.its

  complete : (visits : List Visit) (v : Violation) → IsPreorderOf m visits → BreaksC16 m v → Member v (missing_ends m visits)
  complete visits _ preorder (no_end c d e here among wrong) = contained_member v (missing_ends m visits) (by_need (need m c d e) refl)
    where
      v : Violation
      v = violation 16 (end_place e)

      first : List Violation
      first = over (missing_at m) 1 m.decls

      second : List Violation
      second = flat_map (λ (w : Visit). absent_in m w.class) visits

      lacks : (n : Need) → need m c d e ≡ n → unmet n (end_port e) ≡ true
      lacks n is = ap (λ (x : Need). unmet x (end_port e)) (sym is) ∙ sym (breaks_by_need c d e) ∙ wrong

      by_need : (n : Need) → need m c d e ≡ n → Contains (first ++ second) v
      by_need Nothing is = let none : false ≡ true = lacks Nothing is in cc
      by_need Missing is =
          let listed : Contains (missing_at m c d e) v = member_contained v (missing_at m c d e) (is_listed (is_missing (need m c d e)) v (ap is_missing is)) in
          Contains-append_left first second v (at_number (missing_at m) c d e v here among listed)
      by_need (Port k) is =
          let w : Wanted = record { port = end_port e; place = end_place e } in
          let asked : Contains (wanted_at m k c d e) w = rw (is, is_it k) (first_of w []) in
          let listed : Contains (absent_of m k w) v = member_contained v (absent_of m k w) (is_listed (not (is_among (ports m k) (end_port e))) v (lacks (Port k) is)) in
          let its : Contains (absent_in m k) v = held (absent_of m k) (over (wanted_at m k) 1 m.decls) w v (at_number (wanted_at m k) c d e w here among asked) listed in
          let at = visit_of m visits k preorder (need_within c d e k here is) in
          let there : Contains (absent_in m at.0.class) v = rw at.2 its in
          Contains-append_right first second v (held (λ (x : Visit). absent_in m x.class) visits at.0 v at.1 there)

  -- what the search finds
  pub least_missing_end : (visits : List Visit) → IsPreorderOf m visits → LeastOf (BreaksC16 m) (least_from None (missing_ends m visits))
  least_missing_end visits preorder = leasts.least_found (BreaksC16 m) (missing_ends m visits) (sound visits) (λ v. complete visits v preorder)
