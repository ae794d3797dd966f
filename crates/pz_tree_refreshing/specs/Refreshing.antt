-- What becomes of nodes whose parts are asked again.
use Rattle.std.specs.Prelude.{◌≡◌, ◌≤◌, ◌+◌, ◌*◌, ℕ, suc, true}
use Rattle.pz_nodes_shapes.specs.Rose.{node, none, gone, more, Map, root, payload, has, Stands}
use Rattle.pz_nodes_shapes.specs.Change.{Becomes}
use Rattle.pz_tree_nodes.specs.pz_rules.Settings.{Context}
use Rattle.pz_tree_nodes.specs.pz_rules.Short.{IsShort}
use Rattle.pz_tree_nodes.specs.pz_tree_standing.Heads.{Head, inner_clock}
use Rattle.pz_tree_nodes.specs.pz_tree_standing.Reached.{reaches}
use Rattle.pz_tree_nodes.specs.pz_tree_standing.Soon.{HasRoom, IsSoon}
use Rattle.pz_tree_nodes.specs.declared.node.What.{What}
use Rattle.pz_tree_nodes.specs.View.{Plant, Plants, head_view, term_in}
use Rattle.pz_tree_nodes.specs.Tended.{Tended}
use Rattle.pz_tree_nodes.specs.Fresh.{Fresh}
use Rattle.pz_tree_refreshing.specs.Live.{live_nodes}

abbrev mutual
  -- where its clock shows c: what it keeps is due soon, and so is what its children keep as far as they are active
  pub Timely : ℕ → Plant → Type 0
  Timely c (node k x ps) = IsSoon c x.kept.summary.due × AllTimely (head_view x.head) c 0 ps

  pub AllTimely : Head → ℕ → ℕ → Plants → Type 0
  AllTimely h c i none = Unit {0}
  AllTimely h c i (gone ps) = AllTimely h c (suc i) ps
  AllTimely h c i (more p ps) = (reaches h i ≡ true → Timely (inner_clock h i c) p) × AllTimely h c (suc i) ps

-- In frame f, where its clock shows c. The same keys have nodes that stand for the same term by the same clock. They
-- are tended as before, right as far as they are active, and say rightly what a passing of time may wake. What the
-- active ones keep is due soon. Nothing else has changed, and each live node took three steps at most.
pub record IsRefreshed (a : Context) (m n : Map What) (f c : ℕ) (p : Plant) (old new : ℕ) : Type 0 where
  pub plant : Plant
  pub under : root plant ≡ root p
  pub keys : (j : ℕ) → has plant j ≡ has p j
  pub made : Becomes m n (has p) plant
  pub means : term_in c plant ≡ term_in c p
  pub tended : Tended f c plant
  pub fresh : Fresh a f c plant
  pub timely : Timely c plant
  pub soon : IsSoon c (payload plant).kept.summary.due
  pub ticks : new ≤ old + 3 * live_nodes plant

-- whatever stands under the key
abbrev pub RefreshRule : Context → Map What → Map What → ℕ → ℕ → ℕ → ℕ → ℕ → Type 0
RefreshRule a m n key f c old new = (p : Plant) → Stands m p → root p ≡ key → Tended f c p
    → IsShort (term_in c p) → HasRoom c → IsRefreshed a m n f c p old new
