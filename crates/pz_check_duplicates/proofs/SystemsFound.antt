-- The rule that there is one system, and what the search for a second one finds.
use Rattle.std.proofs.Common.{◌≡◌, refl, subst, ◌<◌, false, IsTrue, List, [], Some, None, arith}
use Rattle.std.proofs.lemmas.Option.{slice_get_within}
use Rattle.pz_classes.specs.pz_syntax.declared.clusters.SystemDecl.{SystemDecl}
use Rattle.pz_classes.specs.pz_syntax.Classes.{ModelTree}
use Rattle.pz_check_violations.specs.declared.violation.Violation.{Violation}
use Rattle.pz_check_violations.specs.Order.{violation, is_before, IsLeast}
use Rattle.pz_check_violations.specs.Least.{LeastOf, least_from, Member}
use Rattle.pz_check_violations.proofs.Order.{not_before_itself}
use Rattle.pz_classes.specs.pz_classes_rules.SizeRules.{systems, text_start, BreaksC20, again_system, no_system}
use Rattle.pz_check_duplicates.specs.devices.Again.{repeats}
use Rattle.pz_check_duplicates.specs.devices.Systems.{any_two_systems, system_place}
use Rattle.pz_check_duplicates.proofs.LeastCovering.{NotBehind, least_covering}
use Rattle.pz_check_duplicates.proofs.Covering.{found_sound, covers_all}

any_turned : (s t : SystemDecl) → IsTrue (any_two_systems s t) → IsTrue (any_two_systems t s)
any_turned s t is = refl

module _ (m : ModelTree) where
  sound : (v : Violation) → Member v (repeats any_two_systems system_place 20 (systems m)) → BreaksC20 m v
  sound v found = let r = found_sound any_two_systems system_place 20 any_turned [] (systems m) v found in subst (BreaksC20 m) r.is (again_system r.again r.repeat)

  complete : (systems m ≡ [] → ⊥) → (v : Violation) → BreaksC20 m v → NotBehind (repeats any_two_systems system_place 20 (systems m)) v
  complete some _ (again_system s r) = covers_all any_two_systems system_place 20 any_turned (repeats any_two_systems system_place 20 (systems m)) (systems m) (λ v found. found) s r
  complete some _ (no_system none) = absurd (some none)

  -- where there is a system
  pub second_found : (systems m ≡ [] → ⊥) → LeastOf (BreaksC20 m) (least_from None (repeats any_two_systems system_place 20 (systems m)))
  second_found some = least_covering (BreaksC20 m) (repeats any_two_systems system_place 20 (systems m)) sound (complete some)

  -- where there is none
  pub none_found : systems m ≡ [] → LeastOf (BreaksC20 m) (Some (violation 20 text_start))
  none_found none = record { violated = no_system none; least = least }
    where
      least : (w : Violation) → BreaksC20 m w → is_before w (violation 20 text_start) ≡ false
      least _ (again_system s r) =
          let there : Some s ≡ Some s = refl in
          let within : r.again_at < 0 = slice_get_within [] r.again_at s (rw none at r.again_there) in
          absurd (omega arith)
      least _ (no_system again) = not_before_itself (violation 20 text_start)
