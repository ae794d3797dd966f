-- The list of the violations of C17 has only those of the rule, and none of the rule is before all of
-- them.
use Rattle.std.proofs.Common.{◌≡◌, refl, subst, ℕ, Bool, true, false, IsTrue, [], Some, None, if◌then◌else◌, ◌⊎◌, inl, inr}
use Rattle.std.specs.List.{flat_map}
use Rattle.pz_classes.specs.pz_syntax.Classes.{DeclTree, ModelTree}
use Rattle.pz_check_violations.specs.declared.violation.Violation.{Violation}
use Rattle.pz_check_violations.specs.Least.{LeastOf, least_from, Member}
use Rattle.pz_check_violations.proofs.Members.{member_left, member_right, member_cases}
use Rattle.pz_classes.specs.pz_classes_rules.Numbers.{declaration}
use Rattle.pz_classes.specs.pz_classes_rules.Kinds.{is_cluster}
use Rattle.pz_classes.specs.pz_classes_rules.Instances.{channels}
use Rattle.pz_classes.specs.pz_classes_rules.ChannelRules.{end_place, ends, same_end, both_outer, BreaksC17, again_end, again_outer}
use Rattle.pz_check_duplicates.specs.devices.Again.{repeats}
use Rattle.pz_check_duplicates.specs.devices.EndList.{outers, of_decl, double_ends}
use Rattle.pz_check_duplicates.proofs.Lists.{flat_member, member_flat}
use Rattle.pz_check_duplicates.proofs.Declared.{number_of, among_declared}
use Rattle.pz_check_duplicates.proofs.LeastCovering.{NotBehind, least_covering}
use Rattle.pz_classes.proofs.pz_classes_rules_proofs.Turned.{ends_turned, outers_turned}
use Rattle.pz_check_duplicates.proofs.Covering.{found_sound, covers_all}

module _ (m : ModelTree) where
  outer_sound : (c : ℕ) (d : DeclTree) (v : Violation) → declaration m c ≡ Some d → IsTrue (is_cluster d) → Member v (flat_map outers (channels d)) → BreaksC17 m v
  outer_sound c d v here cluster found =
      let h = flat_member outers (channels d) v found in
      let r = found_sound both_outer end_place 17 outers_turned [] h.element.ends v h.has in
      subst (BreaksC17 m) r.is (again_outer c d h.element r.again here cluster h.element_in r.repeat)

  decl_sound : (c : ℕ) (d : DeclTree) (v : Violation) → declaration m c ≡ Some d → Member v (of_decl d) → BreaksC17 m v
  decl_sound c d v here found = by_part (member_cases v (repeats same_end end_place 17 (ends d)) (if is_cluster d then flat_map outers (channels d) else []) found)
    where
      by_cluster : (b : Bool) → is_cluster d ≡ b → Member v (if b then flat_map outers (channels d) else []) → BreaksC17 m v
      by_cluster true is there = outer_sound c d v here is there
      by_cluster false is there = absurd there

      by_part : Member v (repeats same_end end_place 17 (ends d)) ⊎ Member v (if is_cluster d then flat_map outers (channels d) else []) → BreaksC17 m v
      by_part (inl there) = let r = found_sound same_end end_place 17 ends_turned [] (ends d) v there in subst (BreaksC17 m) r.is (again_end c d r.again here r.repeat)
      by_part (inr there) = by_cluster (is_cluster d) refl there

  sound : (v : Violation) → Member v (double_ends m) → BreaksC17 m v
  sound v found =
      let h = flat_member of_decl m.decls v found in
      let n = number_of m h.element h.element_in in
      decl_sound n.number h.element v n.declared h.has

  at_decl : (c : ℕ) (d : DeclTree) (v : Violation) → declaration m c ≡ Some d → Member v (of_decl d) → Member v (double_ends m)
  at_decl c d v here found = member_flat of_decl m.decls d v (among_declared m c d here) found

  complete : (v : Violation) → BreaksC17 m v → NotBehind (double_ends m) v
  complete _ (again_end c d e here again) =
      covers_all same_end end_place 17 ends_turned (double_ends m) (ends d)
      (λ v found. at_decl c d v here (member_left v (repeats same_end end_place 17 (ends d)) (if is_cluster d then flat_map outers (channels d) else []) found)) e again
  complete _ (again_outer c d h e here cluster among again) =
      covers_all both_outer end_place 17 outers_turned (double_ends m) h.ends
      (λ v found.
      let there : Member v (flat_map outers (channels d)) = member_flat outers (channels d) h v among found in
      let chosen : Member v (if is_cluster d then flat_map outers (channels d) else []) = rw cluster there in
      at_decl c d v here (member_right v (repeats same_end end_place 17 (ends d)) (if is_cluster d then flat_map outers (channels d) else []) chosen)) e again

-- what the search for the least finds
pub least_found : (m : ModelTree) → LeastOf (BreaksC17 m) (least_from None (double_ends m))
least_found m = least_covering (BreaksC17 m) (double_ends m) (sound m) (complete m)
