-- Laws of what nodes keep.
use Rattle.std.specs.Prelude.{◌≡◌, ◌+◌, ℕ, false}
use Rattle.pz_nodes_shapes.specs.Rose.{payload}
use Rattle.pz_rules.specs.Settings.{Context}
use Rattle.pz_tree_standing.specs.Steady.{Steady}
use Rattle.pz_tree_standing.specs.Woken.{IsAfter}
use Rattle.pz_tree_standing.specs.Calm.{Calm}
use Rattle.pz_tree_standing.specs.Right.{Right}
use Rattle.pz_tree_nodes.specs.View.{Plant, shape_of, term_in}
use Rattle.pz_tree_nodes.specs.Tended.{Tended}
use Rattle.pz_tree_nodes.specs.Fresh.{Flagged, Fresh}

-- where the topmost node says that nothing is asked, all that is active is right, whatever happened before
abbrev pub UnaskedAreRight : Type 0
UnaskedAreRight = (a : Context) (f c : ℕ) (p : Plant) → Tended f c p → (payload p).kept.asks ≡ false
    → Right a f c (shape_of p)

-- and says rightly what may wake
abbrev pub UnaskedAreFlagged : Type 0
UnaskedAreFlagged = (a : Context) (f c : ℕ) (p : Plant) → Tended f c p → (payload p).kept.asks ≡ false
    → Flagged a f c p

-- Where the topmost node keeps that no active delay has still to begin, none begins.
abbrev pub UnwokenAreCalm : Type 0
UnwokenAreCalm = (a : Context) (f c : ℕ) (p : Plant) → Fresh a f c p → (payload p).kept.starts ≡ false
    → Calm a f (shape_of p)

-- Where it also keeps that no active part names the clock, and what it keeps is due after time d, nothing active
-- answers otherwise when that has passed.
abbrev pub UnwokenAreSteady : Type 0
UnwokenAreSteady = (a : Context) (d f c : ℕ) (p : Plant) → Fresh a f c p
    → (payload p).kept.starts ≡ false → (payload p).kept.clocked ≡ false
    → IsAfter (c + d) (payload p).kept.summary.due
    → Steady a d f (term_in c p)
