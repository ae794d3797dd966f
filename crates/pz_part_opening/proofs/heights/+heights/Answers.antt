use Rattle.std.proofs.Common.{ℕ, Bool, min, ap, sym, ◌∙◌, arith}
use Rattle.pz_classes_code.specs.StepView.{view}
use Rattle.pz_rules.specs.Terms.{height}
use Rattle.pz_rules.specs.devices.Outlines.{outlined, outlined_all}
use Rattle.pz_part_opening.specs.Homes.{home_view}
use Rattle.pz_part_opening.specs.devices.Rounds.{round_outline}
use Rattle.pz_part_opening.specs.devices.Spots.{spot_view}
use Rattle.pz_part_opening.proofs.Forms.{low, first_lower}
use Rattle.pz_part_opening.proofs.Lighter.{branch_lighter, first_lighter}
use Rattle.pz_part_opening.proofs.Outlining.{frame_stands}
use Rattle.pz_part_opening.proofs.heights.+heights.Goals as goal

pub branches_within-within-requires : goal.branches_within-within-requires
branches_within-within-requires t c =
    let lighter = branch_lighter (home_view c.args.home.now) c.args.branches.now c.loop-branch.branch-index c.branch-item.result c.loop-branch-test.true c.branch-item.is in
    (omega (arith, lighter, c.decreases), tt)

pub form_within-returns-in_default : goal.form_within-returns-in_default
form_within-returns-in_default t c =
    low (home_view c.args.home.now) c.args.step.now c.args.room c.requires.stands c.requires.some (record {
      guard = λ e s is. c.in_default.not-Guard e s (c.get.ensures ∙ is);
      par = λ bs is. c.in_default.not-Par bs (c.get.ensures ∙ is);
      sel = λ bs is. c.in_default.not-Sel bs (c.get.ensures ∙ is);
      both = λ ss s is. c.in_default.not-Abort ss s (c.get.ensures ∙ is);
      again = λ ss s is. c.in_default.not-Interrupt ss s (c.get.ensures ∙ is);
    })

pub standing_within-within-requires : goal.standing_within-within-requires
standing_within-within-requires t c =
    let lighter = first_lighter (home_view c.args.home.now) c.args.spot c.in-Several.steps c.as_slice.result.now c.step-item-in-Several.result c.in-Several.is (c.as_slice.ensures ∙ c.get.ensures) c.in-len1-up.len_at_least c.step-item-in-Several.is in
    (omega (arith, lighter, c.decreases), tt)

pub standing_within-returns-in-len1-up : goal.standing_within-returns-in-len1-up
standing_within-returns-in-len1-up t c =
    let h = home_view c.args.home.now in
    c.above.ensures (height (outlined h (view c.step-item-in-Several.result))) c.within.ensures
    ∙ ap (λ (n : ℕ). min n c.args.room) (sym (first_lower h c.args.spot c.in-Several.steps c.as_slice.result.now c.step-item-in-Several.result c.in-Several.is (c.as_slice.ensures ∙ c.get.ensures) c.in-len1-up.len_at_least c.step-item-in-Several.is))

pub within-returns-then-inner : goal.within-returns-then-inner
within-returns-then-inner t c =
    let h = home_view c.args.home.now in
    let inner = outlined_all h (spot_view c.go_inside-inner.result.spot) in
    c.above.ensures (height inner) c.standing_within.ensures
    ∙ ap (λ (n : ℕ). min n c.args.room) (sym (ap height (c.go_inside-inner.ensures.opened ∙ ap (λ (b : Bool). round_outline b inner) c.if-inner.true) ∙ frame_stands h (spot_view c.go_inside-inner.result.spot) c.go_inside-inner.ensures.stands))
