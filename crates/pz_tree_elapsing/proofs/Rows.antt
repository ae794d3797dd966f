-- Worked nodes: in how many of them something wakes, and what a passing leaves, which the checker works out.
use Rattle.std.proofs.Common.{◌≡◌, ℕ, true, Option, Some, None, refl}
use Rattle.pz_classes_code.specs.pz_syntax.declared.tokens.Pos.{Pos}
use Rattle.pz_classes_code.specs.declared.code.Code.{Code}
use Rattle.pz_classes_code.specs.declared.step.Step.{Step}
use Rattle.pz_classes_code.specs.StepView.{view}
use Rattle.pz_clock.specs.Shifts.{ShiftView}
use Rattle.pz_nodes_shapes.specs.Rose.{node, none, gone, more}
use Rattle.pz_tree_refreshing.specs.pz_offer.Summaries.{nothing}
use Rattle.pz_tree_refreshing.specs.pz_rules.Settings.{Context}
use Rattle.pz_tree_refreshing.specs.pz_rules.Terms.{wait, handling}
use Rattle.pz_tree_refreshing.specs.pz_rules.devices.Passing.{passed}
use Rattle.pz_tree_refreshing.specs.pz_tree_nodes.declared.kept.Kept.{Kept}
use Rattle.pz_tree_refreshing.specs.pz_tree_nodes.declared.node.Head.TheVariants as kind
use Rattle.pz_tree_refreshing.specs.pz_tree_nodes.Keeping.{kept_done, kept_asked, raised, joined}
use Rattle.pz_tree_refreshing.specs.pz_tree_nodes.View.{Plant, term_in}
use Rattle.pz_tree_elapsing.specs.Waking.{woken_nodes}

-- what is due at this moment
abbrev due_at : ℕ → Kept
due_at due = record kept_done { summary = record nothing { due = Some due } }

-- a delay that has not begun, and will last until this moment
abbrev begins_at : ℕ → Kept
begins_at due = record kept_asked { summary = record nothing { due = Some due }; starts = true }

abbrev named : Kept
named = record kept_asked { clocked = true }

module _ (s again : Step) (test : Code) (at : Pos) where
  abbrev delay : ℕ → ℕ → Plant
  delay key due = node key (record { head = kind.Wait due at; kept = due_at due }) none

  abbrev unbegun : ℕ → ℕ → Plant
  unbegun key due = node key (record { head = kind.Leaf s; kept = begins_at due }) none

  -- two delays side by side, over at 17 and at 20
  abbrev two : Plant
  two = node 9 (record { head = kind.Par; kept = raised (joined (due_at 17) (due_at 20)) }) (more (delay 1 17) (gone (more (delay 2 20) none)))

  -- at 16 nothing wakes; at 17 one is over, and the other is looked at
  two_at_16 : woken_nodes 16 two two ≡ 1
  two_at_16 = refl

  two_at_17 : woken_nodes 17 two two ≡ 3
  two_at_17 = refl

  -- the nodes stay, and stand for what is left: at 10 seven and ten units, three units later four and seven
  two_passes : (a : Context) → term_in 13 two ≡ passed a 3 0 (term_in 10 two)
  two_passes a = refl

  -- an abort of a delay that begins and of one that has begun: both are visited, however late they are over
  abbrev begins : Plant
  begins = node 8 (record { head = kind.Abort; kept = raised (joined (begins_at 25) (due_at 20)) }) (more (unbegun 3 25) (more (delay 2 20) none))

  abbrev has_begun : Plant
  has_begun = node 8 (record { head = kind.Abort; kept = raised (joined (due_at 25) (due_at 20)) }) (more (delay 3 25) (more (delay 2 20) none))

  begins_woken : woken_nodes 12 begins has_begun ≡ 3
  begins_woken = refl

  begun_sleeps : woken_nodes 12 has_begun has_begun ≡ 1
  begun_sleeps = refl

  -- behind a guard whose clock is behind by 4: it is over when that shows 17, and a guard that stands still is passed by
  abbrev behind : Option ℕ → Kept → Plant
  behind since k = node 7 (record { head = kind.Guard test at (record { behind = 4; since = since }); kept = k }) (more two none)

  running_woken : woken_nodes 21 (behind None (raised (due_at 21))) (behind None (raised (due_at 21))) ≡ 4
  running_woken = refl

  standing_woken : woken_nodes 21 (behind (Some 9) (raised kept_asked)) (behind (Some 9) (raised kept_asked)) ≡ 1
  standing_woken = refl

  -- a guard that names the clock and opens at 21: what was behind it is refreshed, which holds nothing to ask
  opens_woken : woken_nodes 21 (behind (Some 9) named) (node 7 (record { head = kind.Guard test at (record { behind = 16; since = None }); kept = named }) (more two none)) ≡ 2
  opens_woken = refl

  -- and that holds a delay which has still to begin: the live nodes count
  abbrev over : ShiftView → Plant
  over shift = node 6 (record { head = kind.Guard test at shift; kept = named }) (more begins none)

  opens_live : woken_nodes 21 (over (record { behind = 4; since = Some 9 })) (over (record { behind = 16; since = None })) ≡ 4
  opens_live = refl

  -- what is interrupted is not visited, and stands still: at 12 its clock shows 6, as at 10
  abbrev interrupted : Plant
  interrupted = node 5 (record { head = kind.Handling again (record { behind = 3; since = Some 9 }); kept = raised (due_at 12) }) (more (delay 1 8) (more (delay 2 12) none))

  interrupted_woken : woken_nodes 12 interrupted interrupted ≡ 2
  interrupted_woken = refl

  interrupted_stands : term_in 12 interrupted ≡ handling (wait 2 at) (wait 0 at) (view again)
  interrupted_stands = refl

  interrupted_passes : (a : Context) → term_in 12 interrupted ≡ passed a 2 0 (term_in 10 interrupted)
  interrupted_passes a = refl
