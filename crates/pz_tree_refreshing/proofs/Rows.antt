-- Worked nodes: how many of them are live, which the checker works out.
use Rattle.std.proofs.Common.{◌≡◌, Some, None, refl}
use Rattle.pz_classes_code.specs.pz_syntax.declared.tokens.Pos.{Pos}
use Rattle.pz_classes_code.specs.declared.code.Code.{Code}
use Rattle.pz_classes_code.specs.declared.step.Step.{Step}
use Rattle.pz_clock.specs.Shifts.{ShiftView}
use Rattle.pz_nodes_shapes.specs.Rose.{node, none, more}
use Rattle.pz_tree_nodes.specs.declared.node.Head.TheVariants as kind
use Rattle.pz_tree_nodes.specs.Keeping.{kept_done, kept_asked, raised}
use Rattle.pz_tree_nodes.specs.View.{Plant}
use Rattle.pz_tree_refreshing.specs.Live.{live_nodes}

module _ (s : Step) (test : Code) (at : Pos) where
  -- an abort of a statement that is asked and of a delay that has begun: the delay is looked at, as a child
  abbrev both : Plant
  both = node 2 (record { head = kind.Abort; kept = raised kept_asked })
      (more (node 0 (record { head = kind.Leaf s; kept = kept_asked }) none)
      (more (node 1 (record { head = kind.Wait 17 at; kept = kept_done }) none) none))

  both_live : live_nodes both ≡ 3
  both_live = refl

  abbrev behind : ShiftView → Plant
  behind shift = node 3 (record { head = kind.Guard test at shift; kept = raised (raised kept_asked) }) (more both none)

  -- behind a guard whose clock runs
  running_live : live_nodes (behind (record { behind = 4; since = None })) ≡ 4
  running_live = refl

  -- and where it stands still: of what is not active no more than the topmost counts
  standing_live : live_nodes (behind (record { behind = 4; since = Some 9 })) ≡ 2
  standing_live = refl

-- where nothing is asked, the topmost alone
delay_live : (at : Pos) → live_nodes (node 1 (record { head = kind.Wait 17 at; kept = kept_done }) none) ≡ 1
delay_live at = refl
