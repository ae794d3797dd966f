-- What becomes of nodes as time passes.
use Rattle.std.specs.Prelude.{◌≡◌, ◌≤◌, ◌+◌, ◌*◌, ℕ, Option, Some, None}
use Rattle.pz_tree_refreshing.specs.pz_classes_rules.Soundness.{IsSound}
use Rattle.pz_nodes_shapes.specs.Rose.{Map, root, payload, has, Stands}
use Rattle.pz_nodes_shapes.specs.Change.{Becomes}
use Rattle.pz_tree_refreshing.specs.pz_rules.Settings.{Context}
use Rattle.pz_tree_refreshing.specs.pz_rules.Delays.{Passes}
use Rattle.pz_tree_refreshing.specs.pz_rules.devices.Computed.{IsUntroubled}
use Rattle.pz_tree_refreshing.specs.pz_rules.devices.Passing.{passed}
use Rattle.pz_tree_refreshing.specs.pz_tree_standing.Steady.{later}
use Rattle.pz_tree_refreshing.specs.pz_tree_nodes.declared.node.What.{What}
use Rattle.pz_tree_refreshing.specs.pz_tree_nodes.View.{Plant, term_in}
use Rattle.pz_tree_refreshing.specs.pz_tree_nodes.Tended.{Tended}
use Rattle.pz_tree_refreshing.specs.pz_tree_nodes.Fresh.{Fresh}
use Rattle.pz_tree_refreshing.specs.pz_rules.Short.{IsShort}
use Rattle.pz_tree_refreshing.specs.pz_tree_standing.Soon.{HasRoom, IsSoon}
use Rattle.pz_tree_refreshing.specs.Refreshing.{Timely}
use Rattle.pz_tree_elapsing.specs.Waking.{woken_nodes}

-- it does not come before this moment, if there is one
abbrev pub IsNotBefore : ℕ → Option ℕ → Type 0
IsNotBefore c None = Unit {0}
IsNotBefore c (Some due) = c ≤ due

-- Time d may pass over these nodes, in frame f, where their clock shows c: they are tended, right as far as they are
-- active, and free of trouble; what the active ones keep is due soon, but nothing before the time has passed.
pub record MayElapse (a : Context) (d f c : ℕ) (p : Plant) : Type 0 where
  pub tended : Tended f c p
  pub fresh : Fresh a f c p
  pub untroubled : (payload p).kept.summary.trouble ≡ None
  pub within : IsNotBefore (c + d) (payload p).kept.summary.due
  pub timely : Timely c p
  pub short : IsShort (term_in c p)

-- It has passed. The same keys have nodes, which stand, by a clock that is so much later, for what the passing leaves
-- of the term. They are tended, right as far as they are active for the process at its later clock, and say rightly
-- what may wake next. Of each delay that has begun less than 2^64 clock units are left, as before, and what the
-- active ones keep is due soon. Nothing else has changed, and each woken node took four steps at most.
pub record HasElapsed (a : Context) (d : ℕ) (m n : Map What) (f c : ℕ) (p : Plant) (old new : ℕ) : Type 0 where
  pub plant : Plant
  pub under : root plant ≡ root p
  pub keys : (j : ℕ) → has plant j ≡ has p j
  pub made : Becomes m n (has p) plant
  pub passes : IsUntroubled a f (term_in c p) → Passes a d f (term_in c p) (term_in (c + d) plant)
  pub computed : term_in (c + d) plant ≡ passed a d f (term_in c p)
  pub tended : Tended f (c + d) plant
  pub fresh : Fresh (later a d) f (c + d) plant
  pub short : IsShort (term_in (c + d) plant)
  pub timely : Timely (c + d) plant
  pub soon : IsSoon (c + d) (payload plant).kept.summary.due
  pub ticks : new ≤ old + 4 * woken_nodes (c + d) p plant

-- Whatever stands under the key, where the clock shows `now` when the time has passed, and the process then is b.
abbrev pub ElapseRule : Context → Map What → Map What → ℕ → ℕ → ℕ → ℕ → ℕ → Type 0
ElapseRule b m n key f now old new = (a : Context) (d c : ℕ) → later a d ≡ b → c + d ≡ now
    → (p : Plant) → Stands m p → root p ≡ key → IsSound a.setting.model → MayElapse a d f c p → HasRoom now
    → HasElapsed a d m n f c p old new
