use Rattle.std.proofs.Common.{◌∙◌, List, drop, refl, sym, ap, arith}
use Rattle.std.proofs.lemmas.Result.{IfOk-weaker}
use Rattle.pz_classes_code.specs.declared.step.Step.{Step}
use Rattle.pz_classes_code.specs.StepView.{view}
use Rattle.pz_rules.specs.Opening.{enter}
use Rattle.pz_rules.specs.View.{term_view}
use Rattle.pz_rules.specs.Terms.{leaf}
use Rattle.pz_rules.specs.declared.term.Term.TheVariants.{Leaf}
use Rattle.pz_part_opening.specs.Homes.{home_view}
use Rattle.pz_part_opening.proofs.Forms.{IsOther, is_small}
use Rattle.pz_part_opening.proofs.Inside.{leaf_became, with_round}
use Rattle.pz_part_opening.proofs.Lighter.{first_lighter, branch_lighter}
use Rattle.pz_part_opening.proofs.Openings.{view_Leaf, none_there, one_there, several_there, branch_opened}
use Rattle.pz_part_opening.proofs.opening.+opening.Goals as goal

pub open_branches-open_spot-requires : goal.open_branches-open_spot-requires
open_branches-open_spot-requires t c =
    let lighter = branch_lighter (home_view c.args.home.now) c.args.branches.now c.loop-branch.branch-index c.branch-item.result c.loop-branch-test.true c.branch-item.is in
    (omega (arith, lighter, c.decreases), tt)

pub open_branches-loop-branch-preserved : goal.open_branches-loop-branch-preserved
open_branches-loop-branch-preserved t c =
    branch_opened (enter (home_view c.args.home.now)) c.loop-branch.terms c.push.new.self c.in_ok-open_spot.field-0 c.args.branches.now c.loop-branch.branch-index c.branch-item.result
    c.args.state.now c.loop-branch.state c.open_spot.new.state c.loop-branch-test.true c.branch-item.is c.in_ok-push.ensures.ok c.in_ok-open_spot.ensures.opened c.loop-branch.invariant

pub open_form-returns-in_ok-copy-in_default : goal.open_form-returns-in_ok-copy-in_default
open_form-returns-in_ok-copy-in_default t c =
    let others : IsOther c.args.step.now.form = record {
      guard = λ e s is. c.in_default.not-Guard e s (c.get.ensures ∙ is);
      par = λ bs is. c.in_default.not-Par bs (c.get.ensures ∙ is);
      sel = λ bs is. c.in_default.not-Sel bs (c.get.ensures ∙ is);
      both = λ ss s is. c.in_default.not-Abort ss s (c.get.ensures ∙ is);
      again = λ ss s is. c.in_default.not-Interrupt ss s (c.get.ensures ∙ is);
    } in
    record {
      opened = leaf_became c.calls_unfold.ensures.stands c.calls_unfold.ensures.none (home_view c.args.home.now) (view c.args.step.now) (term_view (Leaf c.in_ok-copy-in_default.field-0)) c.args.state.now
          c.requires (is_small c.args.step.now others) (view_Leaf c.in_ok-copy-in_default.field-0 ∙ ap (λ (s : Step). leaf (view s)) c.in_ok-copy-in_default.ensures);
      marks = refl;
    }

pub open_spot-returns-clause-opened : goal.open_spot-returns-clause-opened
open_spot-returns-clause-opened t c =
    IfOk-weaker c.in_frame.result _ _
    (λ whole is.
    with_round c.calls_unfold.ensures.stands c.calls_unfold.ensures.none (home_view c.args.home.now) c.args.spot c.in_ok-inner.inner c.args.state.now c.descend.new.state c.open_standing.new.state
    (term_view c.in_ok-term.term) (term_view whole) c.in_ok-inner.ensures.opened c.in_ok-inner.ensures.stands c.in_ok-term.ensures.opened is)
    c.in_frame.ensures

pub open_standing-open_spot-requires : goal.open_standing-open_spot-requires
open_standing-open_spot-requires t c =
    let h = home_view c.args.home.now in
    let lighter =
    first_lighter h c.args.spot c.in-Several.steps c.as_slice.result.now c.step-item-in-Several.result c.in-Several.is (c.as_slice.ensures ∙ c.get.ensures) c.in-len1-up.len_at_least c.step-item-in-Several.is in
    (omega (arith, lighter, c.decreases), tt)

pub open_standing-returns-in-empty-clause-opened :
    goal.open_standing-returns-in-empty-clause-opened
open_standing-returns-in-empty-clause-opened t c =
    none_there (home_view c.args.home.now) c.args.spot c.in-Several.steps c.as_slice.result.now c.in-Several.is (c.as_slice.ensures ∙ c.get.ensures) c.args.state.now c.in-empty.len_below

pub open_standing-returns-in-len1-clause-opened : goal.open_standing-returns-in-len1-clause-opened
open_standing-returns-in-len1-clause-opened t c =
    IfOk-weaker c.open_form-in-len1.result _ _
    (λ term.
    one_there (home_view c.args.home.now) c.args.spot c.in-Several.steps c.as_slice.result.now c.in-Several.is (c.as_slice.ensures ∙ c.get.ensures) c.step-item.result (term_view term) c.args.state.now
    c.open_form-in-len1.new.state (omega arith) c.step-item.is)
    c.open_form-in-len1.ensures.opened

pub open_standing-returns-in_ok-copy-in-len1-up-clause-opened :
    goal.open_standing-returns-in_ok-copy-in-len1-up-clause-opened
open_standing-returns-in_ok-copy-in-len1-up-clause-opened t c =
    let same = c.as_slice.ensures ∙ c.get.ensures in
    several_there (home_view c.args.home.now) c.args.spot c.in-Several.steps c.as_slice.result.now c.in-Several.is same c.from.result c.step-item-in-Several.result c.in_ok-open_spot-in-len1-up.field-0
    c.in_ok-first-in-len1-up.first c.args.state.now c.open_spot.new.state c.in-len1-up.len_at_least c.step-item-in-Several.is
    (c.from.ensures ∙ ap (λ (ts : List Step). drop 1 ts) (c.in_ok-copy-in-len1-up.ensures ∙ sym same)) c.in_ok-first-in-len1-up.ensures c.in_ok-open_spot-in-len1-up.ensures.opened
