-- What is found in classes that declare one of the methods that are kept is what the rule on sizes says.
use Rattle.std.proofs.Common.{◌≡◌, refl, sym, subst, ◌∙◌, ℕ, suc, ◌+◌, ◌<◌, Bool, true, List, length, Option, Some, None, slice_get, zero, IsTrue, arith}
use Rattle.std.proofs.lemmas.Option.{slice_get_within}
use Rattle.pz_classes.specs.pz_syntax.Classes.{DeclTree, ProcessMethodTree, ModelTree}
use Rattle.pz_classes.specs.pz_check_violations.declared.violation.Violation.{Violation}
use Rattle.pz_classes.specs.pz_check_violations.Order.{violation}
use Rattle.pz_classes.specs.pz_check_violations.Least.{LeastOf}
use Rattle.pz_classes_lineage.specs.Reached.{GoesRound}
use Rattle.pz_classes.specs.pz_classes_rules.Ancestors.{parent, ancestors}
use Rattle.pz_classes.specs.pz_classes_rules.Kinds.{is_process}
use Rattle.pz_classes.specs.pz_classes_rules.Members.{grouped}
use Rattle.pz_classes.specs.pz_classes_rules.Methods.{Signature, method_id, method_with, process_method, process_signature}
use Rattle.pz_classes.specs.pz_classes_rules.Numbers.{declaration}
use Rattle.pz_classes.specs.pz_classes_rules.Soundness.{IsSound}
use Rattle.pz_classes.proofs.pz_classes_rules_proofs.Rounds.{nobody_goes_round}
use Rattle.pz_classes_openings.specs.Methods.{method_at}
use Rattle.pz_classes_openings.specs.Openings.{HasMethod, spread_to}
use Rattle.pz_classes_openings.specs.OpeningRules.{BreaksC24, too_large}
use Rattle.pz_classes_openings.proofs.Found.{found_signature}
use Rattle.pz_check_openings.specs.declared.outline.Outline.{Outline}
use Rattle.pz_check_openings.specs.devices.Outlines.{outline_of, outlines}
use Rattle.pz_check_openings.specs.devices.InClass.{large_at, LargeIn, large_in, Among}
use Rattle.pz_check_openings.specs.devices.Heavy.{AreHeavy}
use Rattle.pz_check_openings.specs.devices.Suspects.{AreMarked, Marked}
use Rattle.pz_check_openings.proofs.Enough.{Enough, enough}
use Rattle.pz_check_openings.proofs.Gathering.{least_alike}
use Rattle.pz_check_openings.proofs.InClasses.{large_breaks, so_large}
use Rattle.pz_check_openings.proofs.Kin.{large_in_all, large_whole, stays_heavy}
use Rattle.pz_check_openings.proofs.Listed.{outline_there}
use Rattle.pz_check_openings.proofs.Rising.{Seen, IsLargeIn, Risen, rise}

-- a class with a declaration has a number below the count
numbered : (m : ModelTree) (c : ℕ) (d : DeclTree) → declaration m c ≡ Some d → c < length m.decls + 1
numbered m zero d is = omega arith
numbered m (suc i) d is = let inside : i < length m.decls = slice_get_within m.decls i d is in omega arith

module _ (m : ModelTree) (those : List (Option Outline)) (e : Enough m those) (marks : List Bool) (are : AreMarked m those marks) where
  abbrev Found : Violation → Type 0
  Found = Among (Marked marks (LargeIn m those)) (length m.decls + 1)

  to_rule : (v : Violation) → Found v → BreaksC24 m v
  to_rule v (c, below, (seen, here)) = large_breaks m c v (large_in_all m those e c v here)

  found_there : (k depth : ℕ) (o : Outline) (there : slice_get (outlines m) k ≡ Some (Some o)) (heavy : e.heavy o ≡ true) (flat : (c : ℕ) → GoesRound (parent m) c → ⊥) → Risen m those e marks are flat k depth o there heavy → Found (violation 24 o.name.pos)
  found_there k depth o there heavy flat r = (
    r.class,
    numbered m r.class r.here.decl r.here.there,
    (
      r.here.marked,
      large_in r.here.decl k (violation 24 o.name.pos) r.here.there r.here.process
          (large_at o (stays_heavy m those e k o there heavy) r.large.finds (large_whole m those e r.class k o there heavy (depth, so_large m r.class depth k r.large.much))),
    ),
  )

  from_rule : ((c : ℕ) → GoesRound (parent m) c → ⊥) → (v : Violation) → BreaksC24 m v → Found v
  from_rule flat _ (too_large c k depth d r declared process (s, finds) at much) =
      let there : slice_get (outlines m) k ≡ Some (Some (outline_of r)) = outline_there m k r at in
      let heavy : e.heavy (outline_of r) ≡ true = e.large c k depth (outline_of r) there much in
      let same : s ≡ process_signature r = found_signature m s c k r finds at in
      let own : process_method m c r.name.name (length (grouped r.inputs)) (length (grouped r.outputs)) ≡ Some (method_id k) = subst (λ (t : Signature). method_with m c t ≡ Some (method_id k)) same finds in
      found_there k depth (outline_of r) there heavy flat (rise m those e marks are flat k depth (outline_of r) there heavy (ancestors m c) c refl (record { finds = own; much = much }))

  sizes_are : IsSound m → (found : Option Violation) → LeastOf Found found → LeastOf (BreaksC24 m) found
  sizes_are sound found is = least_alike Found (BreaksC24 m) to_rule (from_rule (nobody_goes_round m sound.classes)) found is

-- what the code finds, by what it asks one after another
pub sizes_told : (m seen : ModelTree) (os those first second : List (Option Outline)) (marks slice : List Bool) → seen ≡ m → os ≡ outlines m → AreHeavy os those → first ≡ those → AreMarked seen first marks
    → second ≡ those → slice ≡ marks → IsSound seen → (found : Option Violation) → LeastOf (Among (Marked slice (LargeIn m second)) (length m.decls + 1)) found → LeastOf (BreaksC24 m) found
sizes_told m seen os those first second marks slice seen_is os_are heavy first_is marked second_is slice_is sound found is =
    let kept : AreHeavy (outlines m) second = subst (λ (l : List (Option Outline)). AreHeavy (outlines m) l) (sym second_is) (subst (λ (l : List (Option Outline)). AreHeavy l those) os_are heavy) in
    let all_marked : AreMarked m second slice =
    subst (λ (x : ModelTree). AreMarked x second slice) seen_is (subst (λ (l : List (Option Outline)). AreMarked seen l slice) (first_is ∙ sym second_is) (subst (λ (l : List Bool). AreMarked seen first l) (sym slice_is) marked)) in
    sizes_are m second (enough m second kept) slice all_marked (subst IsSound seen_is sound) found is
