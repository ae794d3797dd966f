-- What is done on one level.
use Rattle.std.specs.Prelude.{◌≡◌, ◌≤◌, ◌+◌, ◌*◌, ℕ, suc, true, false, List, drop, Option, Some, None}
use Rattle.pz_nodes_shapes.specs.declared.node.Node.{Node}
use Rattle.pz_nodes_shapes.specs.Change.{OnlyAt}
use Rattle.pz_nodes_shapes.specs.Rose.{none, gone, more, Map, root, roots, present, payload, has, has_any, Stands, StandAll}
use Rattle.pz_nodes_shapes.specs.Reading.{depth, depths}
use Rattle.pz_tree_nodes.specs.pz_offer.Summaries.{MayShift}
use Rattle.pz_tree_nodes.specs.pz_rules.Settings.{Context}
use Rattle.pz_tree_nodes.specs.pz_tree_standing.Heads.{Head, inner_clock}
use Rattle.pz_tree_nodes.specs.pz_tree_standing.Standing.{terms_of, HeadFits}
use Rattle.pz_tree_nodes.specs.pz_tree_standing.Reached.{reaches, behind_inside}
use Rattle.pz_tree_nodes.specs.pz_tree_standing.Right.{RightAll}
use Rattle.pz_tree_nodes.specs.pz_tree_standing.Whole.{IsNoShift}
use Rattle.pz_tree_nodes.specs.declared.kept.Kept.{Kept}
use Rattle.pz_tree_nodes.specs.declared.node.What.{What}
use Rattle.pz_tree_nodes.specs.Keeping.{kept_none, joined, kept_later}
use Rattle.pz_tree_nodes.specs.View.{Plant, Plants, head_view, shapes_of, term_in}
use Rattle.pz_tree_nodes.specs.Tended.{Tended}
use Rattle.pz_tree_nodes.specs.Fresh.{Fresh, AllFlagged}
use Rattle.pz_tree_refreshing.specs.Live.{live_below, live_among}
use Rattle.pz_tree_nodes.specs.pz_rules.Short.{IsShort}
use Rattle.pz_tree_nodes.specs.pz_tree_standing.Soon.{HasRoom, IsSoon}
use Rattle.pz_tree_refreshing.specs.Refreshing.{Timely, AllTimely}
use Rattle.pz_tree_refreshing.specs.devices.Reached.{Says}

-- the topmost node is no shift node
abbrev pub IsBare : Plant → Type 0
IsBare p = IsNoShift (head_view (payload p).head)

-- what stands under a key has become another plant under the same keys, of which the topmost keeps k
pub record NodeRefreshed (a : Context) (m n : Map What) (f c : ℕ) (p : Plant) (k : Kept) (old new : ℕ) : Type 0 where
  pub plant : Plant
  pub under : root plant ≡ root p
  pub keys : (j : ℕ) → has plant j ≡ has p j
  pub stands : Stands n plant
  pub only : (j : ℕ) → has p j ≡ false → n j ≡ m j
  pub means : term_in c plant ≡ term_in c p
  pub tended : Tended f c plant
  pub fresh : Fresh a f c plant
  pub bare : IsBare p → IsBare plant
  pub kept : k ≡ (payload plant).kept
  pub timely : Timely c plant
  pub soon : IsSoon c k.summary.due
  pub ticks : new ≤ old + 3 * live_below plant + 2

-- of a node that keeps that something is asked
abbrev pub NodeRule : Context → Map What → Map What → ℕ → ℕ → ℕ → ℕ → Kept → ℕ → ℕ → Type 0
NodeRule a m n f c fuel key k old new = (p : Plant) → Stands m p → root p ≡ key → depth p ≤ fuel → Tended f c p
    → (payload p).kept.asks ≡ true → IsShort (term_in c p) → HasRoom c → NodeRefreshed a m n f c p k old new

-- of any node, which is looked at first
abbrev pub AtRule : Context → Map What → Map What → ℕ → ℕ → ℕ → ℕ → Kept → ℕ → ℕ → Type 0
AtRule a m n f c fuel key k old new = (p : Plant) → Stands m p → root p ≡ key → depth p ≤ fuel → Tended f c p
    → IsShort (term_in c p) → HasRoom c → NodeRefreshed a m n f c p k (old + 1) new

-- what a node keeps, from what it kept and what it adds to what its active children keep
abbrev pub written : Kept → Kept → Kept
written before now = record now { asks = before.asks; height = before.height }

-- a node was put under the key of one that was there
abbrev pub IsPutBack : Map What → Map What → ℕ → Node What → Type 0
IsPutBack m n k x = (m k ≡ None → ⊥) → (n k ≡ Some x) × OnlyAt m n k

-- children of a node h, of which the first has number i, where its clock shows c; they stand in frame f
abbrev pub KidsTended : ℕ → Head → ℕ → ℕ → Plants → Type 0
KidsTended f h c i none = Unit {0}
KidsTended f h c i (gone ps) = KidsTended f h c (suc i) ps
KidsTended f h c i (more p ps) = Tended f (inner_clock h i c) p × KidsTended f h c (suc i) ps

abbrev pub KidsShort : Head → ℕ → ℕ → Plants → Type 0
KidsShort h c i none = Unit {0}
KidsShort h c i (gone ps) = KidsShort h c (suc i) ps
KidsShort h c i (more p ps) = (reaches h i ≡ true → IsShort (term_in (inner_clock h i c) p)) × KidsShort h c (suc i) ps

abbrev pub AreBare : Plants → Type 0
AreBare none = Unit {0}
AreBare (gone ps) = AreBare ps
AreBare (more p ps) = IsBare p × AreBare ps

-- they have become others under the same keys; what the active ones keep is k by the clock of the node
pub record KidsRefreshed (a : Context) (m n : Map What) (f : ℕ) (h : Head) (c i : ℕ) (ps : Plants) (k : Kept) (old new : ℕ) : Type 0 where
  pub plants : Plants
  pub under : roots plants ≡ roots ps
  pub keys : (j : ℕ) → has_any plants j ≡ has_any ps j
  pub stand : StandAll n plants
  pub only : (j : ℕ) → has_any ps j ≡ false → n j ≡ m j
  pub means : terms_of h c i (shapes_of plants) ≡ terms_of h c i (shapes_of ps)
  pub tended : KidsTended f h c i plants
  pub right : RightAll a f h c i (shapes_of plants)
  pub flagged : AllFlagged a f h c i plants
  pub timely : AllTimely h c i plants
  pub bare : AreBare ps → AreBare plants
  pub says : Says a c f h i (terms_of h c i (shapes_of plants)) k
  pub ticks : new ≤ old + 3 * (present plants + live_among h i plants)

abbrev pub KidsRule : Context → Map What → Map What → ℕ → Head → ℕ → ℕ → ℕ → List (Option ℕ) → Kept → ℕ → ℕ → Type 0
KidsRule a m n f h c i fuel kids k old new = (ps : Plants) → StandAll m ps → roots ps ≡ kids → depths ps ≤ fuel
    → KidsTended f h c i ps → KidsShort h c i ps → HeadFits h c → HasRoom c
    → KidsRefreshed a m n f h c i ps k old new

-- nothing was done
pub record IsLeft (m n : Map What) (k : Kept) (old new : ℕ) : Type 0 where
  pub same : n ≡ m
  pub nothing : k ≡ kept_none
  pub ticks : new ≡ old

-- an active child was refreshed, and this is what it keeps by the clock of the node
pub record IsBrought (a : Context) (m n : Map What) (f : ℕ) (h : Head) (c i fuel key : ℕ) (k : Kept) (old new : ℕ) : Type 0 where
  pub kept : Kept
  pub rule : AtRule a m n f (inner_clock h i c) fuel key kept old new
  pub brought : MayShift (behind_inside h i) kept.summary → k ≡ kept_later (behind_inside h i) kept

-- the child of this number
abbrev pub KidRule : Context → Map What → Map What → ℕ → Head → ℕ → ℕ → ℕ → Option ℕ → Kept → ℕ → ℕ → Type 0
KidRule a m n f h c i fuel None k old new = IsLeft m n k old new
KidRule a m n f h c i fuel (Some key) k old new =
    (reaches h i ≡ false → IsLeft m n k old new)
    × (reaches h i ≡ true → IsBrought a m n f h c i fuel key k old new)

-- the children before this number are refreshed: once the others are too, all are
abbrev pub RefreshesOn : Context → Map What → Map What → ℕ → Head → ℕ → ℕ → List (Option ℕ) → ℕ → Kept → ℕ → ℕ → Type 0
RefreshesOn a m0 m f h c fuel kids i kept old now =
    (n : Map What) (k : Kept) (new : ℕ)
    → KidsRule a m n f h c i fuel (drop i kids) k now new
    → KidsRule a m0 n f h c 0 fuel kids (joined kept k) old new
