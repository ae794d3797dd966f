-- What an execution tree stands for, and when what it keeps is right.
use Rattle.std.specs.Prelude.{◌≡◌, ◌≤◌, ℕ, Option, Some, None, slice_get}
use Rattle.std.specs.Option.{option_and_then}
use Rattle.pz_rules.specs.pz_syntax.Classes.{ModelTree}
use Rattle.pz_bind_levels.specs.Places.{Address}
use Rattle.pz_rules.specs.pz_bind_rules.Nest.{processes, class_at}
use Rattle.pz_nodes.specs.Arena.{find, live}
use Rattle.pz_nodes_shapes.specs.Reading.{read}
use Rattle.pz_rules.specs.Terms.{Term, height}
use Rattle.pz_rules.specs.Settings.{Context, Process, left_by}
use Rattle.pz_tree_acting.specs.pz_tree_standing.Summaries.{summary_of}
use Rattle.pz_tree_acting.specs.pz_tree_nodes.View.{Plant, term_in_option}
use Rattle.pz_tree_acting.specs.pz_tree_nodes.Tended.{TendedOption}
use Rattle.pz_tree_acting.specs.pz_tree_nodes.Fresh.{Fresh}
use Rattle.pz_tree_acting.specs.pz_tree_nodes.Planting.{root_of}
use Rattle.pz_tree_acting.specs.pz_tree_regrowing.Regrowing.{StandsOption}
use Rattle.pz_tree_elapsing.specs.pz_tree_refreshing.Live.{live_nodes}
use Rattle.pz_rules.specs.Short.{IsShort}
use Rattle.pz_tree_acting.specs.pz_tree_standing.Soon.{HasRoom, IsSoon}
use Rattle.pz_tree_elapsing.specs.pz_tree_refreshing.Refreshing.{Timely}
use Rattle.pz_tree_elapsing.specs.Waking.{woken_nodes}
use Rattle.pz_tree.specs.declared.tree.Tree.{Tree}

-- What stands under its root. None where nothing is left of its process.
abbrev pub plant_in : Tree → Option Plant
plant_in t = option_and_then (read (live t.nodes) (find t.nodes)) t.root

-- what is left of its process, and the process
abbrev pub term_in : Tree → Term
term_in t = term_in_option t.clock (plant_in t)

abbrev pub process_in : Tree → Process
process_in t = left_by t.state.held (term_in t)

-- its process, as its statements see it, in this model
abbrev pub at_in : ModelTree → Tree → Context
at_in m t = record { setting = record { model = m; limits = t.limits }; process = t.process; class = t.class.0; clock = t.clock; state = t.state.held }

-- the process of its number, of this model, is of its class
pub record IsOf (m : ModelTree) (t : Tree) : Type 0 where
  pub place : Address
  pub is_process : slice_get (processes m) t.process ≡ Some place
  pub class : t.class.0 ≡ class_at m place

-- The tree is one of this model, and may go on: its nodes stand and are tended, so each says rightly whether
-- something is asked below it, and keeps the right summary where nothing is. It is so as long as memory was never
-- wanting.
pub record IsThere (m : ModelTree) (t : Tree) : Type 0 where
  pub of_model : IsOf m t
  pub under : root_of (plant_in t) ≡ t.root
  pub stands : StandsOption (find t.nodes) (plant_in t)
  pub tended : TendedOption 0 t.clock (plant_in t)
  -- no delay that has begun has 2^64 clock units left, and there is room for as much on its clock
  pub short : IsShort (term_in t)
  pub room : HasRoom t.clock
  pub low : height (term_in t) ≤ t.limits.height

abbrev pub FreshOption : Context → ℕ → ℕ → Option Plant → Type 0
FreshOption a f c None = Unit {0}
FreshOption a f c (Some p) = Fresh a f c p

abbrev pub TimelyOption : ℕ → Option Plant → Type 0
TimelyOption c None = Unit {0}
TimelyOption c (Some p) = Timely c p

-- And each of its active nodes keeps the right summary: what there is to ask was asked since it acted. What they keep is
-- due soon, and so the first active delay that is over is so in less than 2^64 clock units.
pub record IsFresh (m : ModelTree) (t : Tree) : Type 0 where
  pub there : IsThere m t
  pub fresh : FreshOption (at_in m t) 0 t.clock (plant_in t)
  pub timely : TimelyOption t.clock (plant_in t)
  pub soon : IsSoon t.clock (summary_of (at_in m t) t.clock 0 (term_in t)).due

-- how many of its nodes are live
abbrev pub live_of : Option Plant → ℕ
live_of None = 0
live_of (Some p) = live_nodes p

abbrev pub live_in : Tree → ℕ
live_in t = live_of (plant_in t)

-- in how many of its nodes something woke, before and after time has passed, where the clock now shows c
abbrev pub woken_of : ℕ → Option Plant → Option Plant → ℕ
woken_of c (Some p) (Some q) = woken_nodes c p q
woken_of c p q = 0

abbrev pub woken_in : Tree → Tree → ℕ
woken_in t u = woken_of u.clock (plant_in t) (plant_in u)
