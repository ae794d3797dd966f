-- What is found in classes that declare a suspect is what the rule on rounds says.
use Rattle.std.proofs.Common.{◌≡◌, sym, ap, subst, ◌∙◌, ℕ, suc, ◌+◌, ◌<◌, ◌≤◌, Bool, true, false, List, length, Option, Some, None, arith}
use Rattle.std.proofs.lemmas.Option.{slice_get_within}
use Rattle.pz_classes.specs.pz_syntax.Classes.{ModelTree}
use Rattle.pz_classes.specs.pz_check_violations.declared.violation.Violation.{Violation}
use Rattle.pz_classes.specs.pz_check_violations.Least.{LeastOf}
use Rattle.pz_classes_lineage.specs.Reached.{GoesRound}
use Rattle.pz_classes.specs.pz_classes_rules.Ancestors.{parent, ancestors}
use Rattle.pz_classes.specs.pz_classes_rules.Methods.{signatures, methods_before}
use Rattle.pz_classes.specs.pz_classes_rules.Numbers.{declaration}
use Rattle.pz_classes.specs.pz_classes_rules.Soundness.{IsSound}
use Rattle.pz_classes.proofs.pz_classes_rules_proofs.Rounds.{nobody_goes_round}
use Rattle.pz_classes_openings.specs.OpeningRules.{BreaksC23}
use Rattle.pz_check_openings.specs.declared.outline.Outline.{Outline}
use Rattle.pz_check_openings.specs.devices.Outlines.{outlines}
use Rattle.pz_check_openings.specs.devices.InClass.{RoundIn, round_in, Among}
use Rattle.pz_check_openings.specs.devices.Suspects.{AreSuspects, AreMarked, Marked, is_marked, is_suspect}
use Rattle.pz_check_openings.specs.devices.Through.{RoundThrough}
use Rattle.pz_check_openings.proofs.Climbing.{Declaring, climb_round, Owned, owned}
use Rattle.pz_check_openings.proofs.Gathering.{least_alike}
use Rattle.pz_check_openings.proofs.InClasses.{round_breaks}
use Rattle.pz_check_openings.proofs.Parts.{round_in_all, round_there}
use Rattle.pz_check_openings.proofs.Suspected.{Kept, through_suspects}

-- a rule in a class with a mark
module _ (marks : List Bool) (P : ℕ → Violation → Type 0) (c : ℕ) where
  pub not_marked : is_marked marks c ≡ false → LeastOf (Marked marks P c) None
  not_marked falls v (seen, here) = cc

  pub is_seen : (found : Option Violation) → is_marked marks c ≡ true → LeastOf (P c) found → LeastOf (Marked marks P c) found
  is_seen found is least = least_alike (P c) (Marked marks P c) (λ v here. (is, here)) (λ v (seen, here). here) found least

module _ (m : ModelTree) (those : List (Option Outline)) (s : AreSuspects (outlines m) those) (marks : List Bool) (are : AreMarked m those marks) where
  abbrev Found : Violation → Type 0
  Found = Among (Marked marks (RoundIn m those)) (length m.decls + 1)

  to_rule : (v : Violation) → Found v → BreaksC23 m v
  to_rule v (c, below, (seen, here)) = round_breaks m c v (round_in_all (is_suspect s.rank) (outlines m) those s.are m c v here)

  module _ (v : Violation) (d : Declaring (Kept m those s) m (λ line. RoundThrough (Kept m those s) m line v)) (o : Owned m d.declares.call.name 0 0 d.class d.declares.method) where
    there : declaration m d.class ≡ Some o.decl
    there = ap (declaration m) o.numbered ∙ o.there

    seen : is_marked marks d.class ≡ true
    seen =
        let low : methods_before m (suc o.index) ≤ d.declares.method = subst (λ (c : ℕ). methods_before m c ≤ d.declares.method) o.numbered o.first in
        let high : d.declares.method < methods_before m (suc o.index) + length (signatures o.decl) = subst (λ (c : ℕ). d.declares.method < methods_before m c + length (signatures o.decl)) o.numbered o.last in
        ap (is_marked marks) o.numbered ∙ are o.index d.declares.method o.decl d.declares.kind.0 o.there d.declares.kind.1 low high

    below : d.class < length m.decls + 1
    below = let inside : o.index < length m.decls = slice_get_within m.decls o.index o.decl o.there in let same : d.class ≡ suc o.index = o.numbered in omega (arith, inside, same)

    found_there : Found v
    found_there = (d.class, below, (seen, round_in o.decl v there o.process (round_there m (is_suspect s.rank) those s.are d.class v d.holds)))

  from_rule : ((c : ℕ) → GoesRound (parent m) c → ⊥) → (v : Violation) → BreaksC23 m v → Found v
  from_rule flat v breaks = by_class (through_suspects m those s v breaks)
    where
      by_declaring : Declaring (Kept m those s) m (λ line. RoundThrough (Kept m those s) m line v) → Found v
      by_declaring d = found_there v d (owned m d.declares.call.name 0 0 d.class d.declares.method d.declares.own)

      by_class : (c : ℕ) × RoundThrough (Kept m those s) m (ancestors m c) v → Found v
      by_class (c, through) = by_declaring (climb_round (Kept m those s) m flat c v through)

  rounds_are : IsSound m → (found : Option Violation) → LeastOf Found found → LeastOf (BreaksC23 m) found
  rounds_are sound found is = least_alike Found (BreaksC23 m) to_rule (from_rule (nobody_goes_round m sound.classes)) found is

-- what the code finds, by what it asks one after another
pub rounds_told : (m seen : ModelTree) (os those first second : List (Option Outline)) (marks slice : List Bool) → seen ≡ m → os ≡ outlines m → AreSuspects os those → first ≡ those → AreMarked seen first marks
    → second ≡ those → slice ≡ marks → IsSound seen → (found : Option Violation) → LeastOf (Among (Marked slice (RoundIn m second)) (length m.decls + 1)) found → LeastOf (BreaksC23 m) found
rounds_told m seen os those first second marks slice seen_is os_are suspects first_is marked second_is slice_is sound found is =
    let kept : AreSuspects (outlines m) second = subst (λ (l : List (Option Outline)). AreSuspects (outlines m) l) (sym second_is) (subst (λ (l : List (Option Outline)). AreSuspects l those) os_are suspects) in
    let all_marked : AreMarked m second slice =
    subst (λ (x : ModelTree). AreMarked x second slice) seen_is (subst (λ (l : List (Option Outline)). AreMarked seen l slice) (first_is ∙ sym second_is) (subst (λ (l : List Bool). AreMarked seen first l) (sym slice_is) marked)) in
    rounds_are m second kept slice all_marked (subst IsSound seen_is sound) found is
