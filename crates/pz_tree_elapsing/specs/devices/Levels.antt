-- What is done on one level.
use Rattle.std.specs.Prelude.{◌≡◌, ◌≤◌, ◌||◌, ◌+◌, ◌*◌, ℕ, suc, Bool, true, false, List, [], ◌∷◌, drop, Option, Some, None}
use Rattle.pz_tree_refreshing.specs.pz_eval_rules.Clocks.{DataIsTimeless}
use Rattle.pz_nodes_shapes.specs.declared.node.Node.{Node}
use Rattle.pz_nodes_shapes.specs.Rose.{none, gone, more, Map, root, roots, payload, has, has_any, Stands, StandAll}
use Rattle.pz_nodes_shapes.specs.Reading.{depth, depths}
use Rattle.pz_tree_refreshing.specs.pz_offer.Summaries.{MayShift}
use Rattle.pz_tree_refreshing.specs.pz_rules.Settings.{Context}
use Rattle.pz_tree_refreshing.specs.pz_rules.devices.Passing.{passed}
use Rattle.pz_tree_refreshing.specs.pz_tree_standing.Asked.{asks}
use Rattle.pz_tree_refreshing.specs.pz_tree_standing.Steady.{later}
use Rattle.pz_tree_refreshing.specs.pz_tree_standing.Heads.{Head, inner_clock}
use Rattle.pz_tree_refreshing.specs.pz_tree_standing.Standing.{terms_of, HeadFits}
use Rattle.pz_tree_refreshing.specs.pz_tree_standing.Reached.{reaches, behind_inside}
use Rattle.pz_tree_refreshing.specs.pz_tree_standing.Right.{RightAll}
use Rattle.pz_tree_refreshing.specs.pz_tree_nodes.declared.kept.Kept.{Kept}
use Rattle.pz_tree_refreshing.specs.pz_tree_nodes.declared.node.What.{What}
use Rattle.pz_tree_refreshing.specs.pz_tree_nodes.Keeping.{joined, kept_later}
use Rattle.pz_tree_refreshing.specs.pz_tree_nodes.View.{Plant, Plants, shapes_of, term_in}
use Rattle.pz_tree_refreshing.specs.pz_tree_nodes.Tended.{Tended}
use Rattle.pz_tree_refreshing.specs.pz_tree_nodes.Fresh.{Fresh, AllFlagged}
use Rattle.pz_tree_refreshing.specs.pz_rules.Short.{IsShort, AreShort}
use Rattle.pz_tree_refreshing.specs.pz_tree_standing.Soon.{HasRoom, IsSoon}
use Rattle.pz_tree_refreshing.specs.Refreshing.{Timely, AllTimely, RefreshRule}
use Rattle.pz_tree_refreshing.specs.devices.Reached.{reached_sum, Says}
use Rattle.pz_tree_refreshing.specs.devices.Levels.{IsBare, AreBare, KidsTended, IsLeft}
use Rattle.pz_tree_elapsing.specs.declared.turning.Turn.{Turn}
use Rattle.pz_tree_elapsing.specs.declared.turning.Turn.TheVariants.{Same, Shut, Opened}
use Rattle.pz_tree_elapsing.specs.Waking.{wakes, woken_below, woken_among}
use Rattle.pz_tree_elapsing.specs.Elapsing.{MayElapse}
use Rattle.pz_tree_elapsing.specs.devices.Wakes.{passed_reached}

-- what stands under a key has become another plant under the same keys, of which the topmost keeps k
pub record NodeElapsed (a : Context) (d : ℕ) (m n : Map What) (f c : ℕ) (p : Plant) (k : Kept) (old new : ℕ) : Type 0 where
  pub plant : Plant
  pub under : root plant ≡ root p
  pub keys : (j : ℕ) → has plant j ≡ has p j
  pub stands : Stands n plant
  pub only : (j : ℕ) → has p j ≡ false → n j ≡ m j
  pub means : term_in (c + d) plant ≡ passed a d f (term_in c p)
  pub tended : Tended f (c + d) plant
  pub fresh : Fresh (later a d) f (c + d) plant
  pub short : IsShort (term_in (c + d) plant)
  pub bare : IsBare p → IsBare plant
  pub kept : k ≡ (payload plant).kept
  pub timely : Timely (c + d) plant
  pub soon : IsSoon (c + d) k.summary.due
  pub ticks : new ≤ old + 4 * woken_below (c + d) p plant + 2

-- of a node in which something wakes
abbrev pub NodeRule : Context → Map What → Map What → ℕ → ℕ → ℕ → ℕ → Kept → ℕ → ℕ → Type 0
NodeRule b m n f now fuel key k old new = (a : Context) (d c : ℕ) → later a d ≡ b → c + d ≡ now
    → (p : Plant) → Stands m p → root p ≡ key → depth p ≤ fuel → DataIsTimeless a.setting.model
    → MayElapse a d f c p → HasRoom now → wakes now (payload p).kept ≡ true → NodeElapsed a d m n f c p k old new

-- of any node, which is looked at first
abbrev pub AtRule : Context → Map What → Map What → ℕ → ℕ → ℕ → ℕ → Kept → ℕ → ℕ → Type 0
AtRule b m n f now fuel key k old new = (a : Context) (d c : ℕ) → later a d ≡ b → c + d ≡ now
    → (p : Plant) → Stands m p → root p ≡ key → depth p ≤ fuel → DataIsTimeless a.setting.model
    → MayElapse a d f c p → HasRoom now → NodeElapsed a d m n f c p k (old + 1) new

-- What a node keeps, from what it kept, whether something is asked at it or below it, and what it adds to what its
-- active children keep.
abbrev pub written : Kept → Bool → Kept → Kept
written before asks now = record now { asks = asks; height = before.height }

-- ------------------------------------------------------------ children

-- Of children of a node h, of which the first has number i, where its clock shows c; they stand in frame f. Over
-- those that are active time d may pass, and for the others it stands still.
abbrev pub KidsMayElapse : Context → ℕ → ℕ → Head → ℕ → ℕ → Plants → Type 0
KidsMayElapse a d f h c i none = Unit {0}
KidsMayElapse a d f h c i (gone ps) = KidsMayElapse a d f h c (suc i) ps
KidsMayElapse a d f h c i (more p ps) =
    (reaches h i ≡ true → MayElapse a d f (inner_clock h i c) p)
    × (reaches h i ≡ false → inner_clock h i (c + d) ≡ inner_clock h i c)
    × Tended f (inner_clock h i c) p
    × IsShort (term_in (inner_clock h i c) p)
    × KidsMayElapse a d f h c (suc i) ps

-- they have become others under the same keys; what the active ones keep is k by the clock of the node
pub record KidsElapsed (a : Context) (d : ℕ) (m n : Map What) (f : ℕ) (h : Head) (c i : ℕ) (ps : Plants) (k : Kept) (old new : ℕ) : Type 0 where
  pub plants : Plants
  pub under : roots plants ≡ roots ps
  pub keys : (j : ℕ) → has_any plants j ≡ has_any ps j
  pub stand : StandAll n plants
  pub only : (j : ℕ) → has_any ps j ≡ false → n j ≡ m j
  pub means : terms_of h (c + d) i (shapes_of plants) ≡ passed_reached a d f h i (terms_of h c i (shapes_of ps))
  pub tended : KidsTended f h (c + d) i plants
  pub right : RightAll (later a d) f h (c + d) i (shapes_of plants)
  pub flagged : AllFlagged (later a d) f h (c + d) i plants
  pub timely : AllTimely h (c + d) i plants
  pub short : AreShort (terms_of h (c + d) i (shapes_of plants))
  pub bare : AreBare ps → AreBare plants
  pub says : Says (later a d) (c + d) f h i (terms_of h (c + d) i (shapes_of plants)) k
  pub asks : k.asks ≡ reached_sum false ◌||◌ h asks i (terms_of h (c + d) i (shapes_of plants))
  pub ticks : new ≤ old + 4 * woken_among h h (c + d) i ps plants

abbrev pub KidsRule : Context → Map What → Map What → ℕ → Head → ℕ → ℕ → ℕ → List (Option ℕ) → Kept → ℕ → ℕ → Type 0
KidsRule b m n f h now i fuel kids k old new = (a : Context) (d c : ℕ) → later a d ≡ b → c + d ≡ now
    → (ps : Plants) → StandAll m ps → roots ps ≡ kids → depths ps ≤ fuel → DataIsTimeless a.setting.model
    → KidsMayElapse a d f h c i ps → HeadFits h c → HasRoom now → KidsElapsed a d m n f h c i ps k old new

-- time has passed over an active child, and this is what it keeps by the clock of the node
pub record IsBrought (b : Context) (m n : Map What) (f : ℕ) (h : Head) (now i fuel key : ℕ) (k : Kept) (old new : ℕ) : Type 0 where
  pub kept : Kept
  pub rule : AtRule b m n f (inner_clock h i now) fuel key kept old new
  pub brought : MayShift (behind_inside h i) kept.summary → k ≡ kept_later (behind_inside h i) kept

-- the child of this number
abbrev pub KidRule : Context → Map What → Map What → ℕ → Head → ℕ → ℕ → ℕ → Option ℕ → Kept → ℕ → ℕ → Type 0
KidRule b m n f h now i fuel None k old new = IsLeft m n k old new
KidRule b m n f h now i fuel (Some key) k old new =
    (reaches h i ≡ false → IsLeft m n k old new)
    × (reaches h i ≡ true → IsBrought b m n f h now i fuel key k old new)

-- time has passed over the children before this number: once it has over the others too, it has over all
abbrev pub ElapsesOn : Context → Map What → Map What → ℕ → Head → ℕ → ℕ → List (Option ℕ) → ℕ → Kept → ℕ → ℕ → Type 0
ElapsesOn b m0 m f h now fuel kids i kept old mid =
    (n : Map What) (k : Kept) (new : ℕ)
    → KidsRule b m n f h now i fuel (drop i kids) k mid new
    → KidsRule b m0 n f h now 0 fuel kids (joined kept k) old new

-- ------------------------------------------------------------ gates

abbrev pub first_kid : List (Option ℕ) → Option ℕ
first_kid [] = None
first_kid (kid ∷ kids) = kid

-- a child that has become active was refreshed, and this is what it keeps by the clock of the node
pub record IsReturned (b : Context) (m n : Map What) (f : ℕ) (g : Head) (now key : ℕ) (k : Kept) (old new : ℕ) : Type 0 where
  pub mid : ℕ
  pub rule : RefreshRule b m n key f (inner_clock g 0 now) old mid
  pub brought : (was : Node What) → n key ≡ Some was → MayShift (behind_inside g 0) was.what.kept.summary → k ≡ kept_later (behind_inside g 0) was.what.kept
  pub ticks : new ≡ mid + 1

abbrev pub ReturnRule : Context → Map What → Map What → ℕ → Head → ℕ → Option ℕ → Kept → ℕ → ℕ → Type 0
ReturnRule b m n f g now None k old new = IsLeft m n k old new
ReturnRule b m n f g now (Some key) k old new = IsReturned b m n f g now key k old new

-- what the active children keep, where the node has become g and they kept this before
abbrev pub TurnRule : Turn → Context → Map What → Map What → ℕ → Head → ℕ → List (Option ℕ) → Kept → Kept → ℕ → ℕ → Type 0
TurnRule Same b m n f g now kids before k old new = (n ≡ m) × (k ≡ before) × (new ≡ old)
TurnRule Shut b m n f g now kids before k old new = IsLeft m n k old new
TurnRule Opened b m n f g now kids before k old new = ReturnRule b m n f g now (first_kid kids) k old new
