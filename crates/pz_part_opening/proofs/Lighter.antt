-- Parts of what stands there are lighter, and so is what is further in.
use Rattle.std.proofs.Common.{◌≡◌, ◌≤◌, ◌<◌, ℕ, zero, suc, List, [], ◌∷◌, length, get_or, sym, ap, ◌∙◌, Option, Some, None, arith}
use Rattle.std.specs.Borrow.{Bor}
use Rattle.std.proofs.lemmas.List.Sums.{sum_by-append}
use Rattle.pz_classes_code.specs.pz_syntax.Statements.{skip, delay, bracketed, block, guarded, parallel, select, conditional, repeated, abort, interrupt, send, receive, call, assignment, value}
use Rattle.pz_classes_code.specs.declared.step.Step.{Step}
use Rattle.pz_classes_code.specs.StepView as step
use Rattle.pz_classes_beginnings.specs.Beginning.{begun_all, begun_each, statements_in}
use Rattle.pz_rules.specs.Terms as terms
use Rattle.pz_rules.specs.Settings.{Home}
use Rattle.pz_rules.specs.Openable.{alone}
use Rattle.pz_rules.specs.View.{branches_view}
use Rattle.pz_rules.specs.CallLaws.{plain_call}
use Rattle.pz_rules.specs.devices.Weights.{called_weight, weight_all, weight_each, CallsAreHeavier}
use Rattle.pz_part_opening.specs.declared.spot.Spot.{Spot}
use Rattle.pz_part_opening.specs.declared.spot.Spot.TheVariants.{Several}
use Rattle.pz_part_opening.specs.devices.Spots.{spot_view, IsInside}

-- each statement is one
one_at_least : (r : terms.Step) → 1 ≤ statements_in r
one_at_least (skip pos) = omega arith
one_at_least (delay pos e) = omega arith
one_at_least (block pos es) = omega arith
one_at_least (send pos port name args after) = omega arith
one_at_least (receive pos port name into condition after) = omega arith
one_at_least (call pos method args results) = omega arith
one_at_least (assignment pos x e) = omega arith
one_at_least (value pos e) = omega arith
one_at_least (bracketed pos ts) = omega arith
one_at_least (guarded pos e t) = omega arith
one_at_least (parallel pos bs) = omega arith
one_at_least (select pos bs) = omega arith
one_at_least (conditional pos e ts other) = omega arith
one_at_least (repeated pos e ts) = omega arith
one_at_least (abort pos ts t) = omega arith
one_at_least (interrupt pos ts t) = omega arith

module _ (h : Home) where
  pub branch_lighter : (bs : List (List Step)) (i : ℕ) (b : List Step) → i < length bs → b ≡ get_or bs i b → weight_all h (step.sequence_view b) ≤ weight_each h (branches_view bs)
  branch_lighter [] i b within is = absurd (omega (arith, within))
  branch_lighter (c ∷ bs) zero b within is =
      let same : weight_all h (step.sequence_view b) ≡ weight_all h (step.sequence_view c) = ap (λ (x : List Step). weight_all h (step.sequence_view x)) is in
      let both = sum_by-append (called_weight h) (begun_all (step.sequence_view c)) (begun_each (branches_view bs)) in
      omega (arith, same, both)
  branch_lighter (c ∷ bs) (suc i) b within is =
      let further = branch_lighter bs i b (omega (arith, within)) is in
      let both = sum_by-append (called_weight h) (begun_all (step.sequence_view c)) (begun_each (branches_view bs)) in
      omega (arith, further, both)

  -- the first of several
  pub first_lighter : (spot : Spot) (steps : Bor (List Step)) (got : List Step) (s : Step) → spot ≡ Several steps → got ≡ steps.now → 2 ≤ length got → s ≡ get_or got 0 s
      → weight_all h (alone (step.view s)) < weight_all h (spot_view spot)
  first_lighter spot steps [] s is same two first = absurd (omega (arith, two))
  first_lighter spot steps (r ∷ []) s is same two first = absurd (omega (arith, two))
  first_lighter spot steps (r ∷ q ∷ rest) s is same two first =
      let whole : weight_all h (spot_view spot) ≡ weight_all h (step.sequence_view (r ∷ q ∷ rest)) = ap (λ (x : Spot). weight_all h (spot_view x)) is ∙ ap (λ (ts : List Step). weight_all h (step.sequence_view ts)) (sym same) in
      let part : weight_all h (alone (step.view s)) ≡ weight_all h (alone (step.view r)) = ap (λ (x : Step). weight_all h (alone (step.view x))) first in
      let some = one_at_least (step.view q) in
      omega (arith, whole, part, some)

-- further in
module _ (h : Home) (heavier : CallsAreHeavier) where
  pub lighter_inside : (whole : terms.Steps) (locals : Option ℕ) (inner : terms.Steps) → IsInside h whole locals inner → weight_all h inner < weight_all h whole
  lighter_inside whole None inner is =
      let e : weight_all h whole ≡ weight_all h (alone (bracketed is.pos inner)) = ap (weight_all h) is.is in
      omega (arith, e)
  lighter_inside whole (Some locals) inner is =
      let e : weight_all h whole ≡ weight_all h (alone (plain_call is.pos is.method)) = ap (weight_all h) is.is in
      let lighter = heavier h is.pos is.method locals inner is.opens is.called in
      omega (arith, e, lighter)
