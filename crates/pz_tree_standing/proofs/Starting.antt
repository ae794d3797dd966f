-- A process that begins has just the frames open that stand in it.
use Rattle.std.proofs.Common.{◌≡◌, ◌≤◌, ◌+◌, ℕ, List, sym, subst, arith}
use Rattle.pz_bind_levels.specs.Places.{Address}
use Rattle.pz_rules.specs.pz_bind_rules.Values.{values_at}
use Rattle.pz_rules.specs.pz_value.declared.value.Value.{Value}
use Rattle.pz_rules.specs.pz_state.States.{initial}
use Rattle.pz_rules.specs.declared.limits.Edition.{Edition}
use Rattle.pz_rules.specs.declared.limits.Edition.TheVariants.{One, Two}
use Rattle.pz_rules.specs.Terms.{Step}
use Rattle.pz_rules.specs.Settings.{Setting, Process, Home}
use Rattle.pz_rules.specs.Opening.{opened}
use Rattle.pz_rules.specs.Leaving.{swept}
use Rattle.pz_rules.specs.Laws.{NumbersAreFree}
use Rattle.pz_rules.specs.Starting.{home_at, StartsAs}
use Rattle.pz_tree_standing.specs.FrameCounts.{times}
use Rattle.pz_tree_standing.specs.Frames.{open_as, FramesStand, HaveOpened}
use Rattle.pz_tree_standing.proofs.Opening.{step_opens}
use Rattle.pz_tree_standing.proofs.Numbered.{opened_once}
use Rattle.pz_tree_standing.proofs.Sweeping.{still_stand}

at_most : (e : Edition) (stand before after : ℕ) → HaveOpened e stand before after → stand ≤ after
at_most One stand before after h = omega (arith, h)
at_most Two stand before after h = omega (arith, h)

begins : NumbersAreFree → (h : Home) (first : Step) (values : List Value) → FramesStand (swept (opened h first (initial values))).term (swept (opened h first (initial values))).state
begins free h first values =
    let x = opened h first (initial values) in
    still_stand x.term x.state
    (λ n. at_most h.edition (times n x.term) (open_as n (initial values)) (open_as n x.state) (step_opens h n first (initial values)))
    (opened_once free h first (initial values) (λ n. omega arith))

pub at_start : NumbersAreFree → (setting : Setting) (place : Address) (p : Process) → StartsAs setting place p → FramesStand p.term p.state
at_start free setting place p starts =
    subst (λ (q : Process). FramesStand q.term q.state) (sym starts.stands) (begins free (home_at setting place) starts.call (values_at setting.model place))
