-- Laws of what nodes stand for.
use Rattle.std.specs.Prelude.{◌≡◌, ◌<◌, ◌≤◌, ◌↔◌, ◌+◌, ◌*◌, ℕ, true, false}
use Rattle.pz_rules.specs.pz_classes_rules.Soundness.{IsSound}
use Rattle.pz_rules.specs.pz_offer.PlaceOrder.{Place}
use Rattle.pz_nodes_shapes.specs.Rose.{Map, width, payload}
use Rattle.pz_nodes_shapes.specs.Reading.{depth}
use Rattle.pz_rules.specs.declared.limits.Edition.TheVariants.{One}
use Rattle.pz_rules.specs.Terms.{Term, height}
use Rattle.pz_rules.specs.Settings.{Context, Process, Home}
use Rattle.pz_rules.specs.Laws.{part_of}
use Rattle.pz_rules.specs.Places.{MayAct}
use Rattle.pz_rules.specs.Leaving.{residual}
use Rattle.pz_rules.specs.Active.{Reached}
use Rattle.pz_rules.specs.Delays.{Passes}
use Rattle.pz_rules.specs.devices.Computed.{IsUntroubled}
use Rattle.pz_tree_standing.specs.Asked.{asks}
use Rattle.pz_tree_standing.specs.Steady.{later, Steady}
use Rattle.pz_tree_standing.specs.Woken.{starts, clocked, IsAfter}
use Rattle.pz_tree_standing.specs.Heads.{Head, What, Shape, Shapes, formed}
use Rattle.pz_tree_standing.specs.Standing.{term_of, terms_of, Fits}
use Rattle.pz_tree_standing.specs.Reached.{reaches, GateRight}
use Rattle.pz_tree_standing.specs.Right.{Right}
use Rattle.pz_tree_standing.specs.Resting.{Rests}
use Rattle.pz_tree_standing.specs.Whole.{IsNoShift, HasParts, Whole}
use Rattle.pz_tree_standing.specs.Meaning.{StandsFor}
use Rattle.pz_tree_standing.specs.Sound.{Sound}
use Rattle.pz_tree_standing.specs.Calm.{Calm}
use Rattle.pz_tree_standing.specs.FrameCounts.{count_in, times, lost_all, gained_all}

-- the nodes under a key stand for one term at most
abbrev pub OneTerm : Type 0
OneTerm = (m : Map What) (k c : ℕ) (t u : Term) → StandsFor m k c t → StandsFor m k c u → t ≡ u

-- A node whose gate is right reaches those of its children that the rules say go on with its term. A shift node is no
-- part of the term, and reaches its one child.
abbrev pub ReachesWhatGoesOn : Type 0
ReachesWhatGoesOn = (a : Context) (f c : ℕ) (h : Head) (ss : Shapes) (i : ℕ) → HasParts h ss
    → i < width ss → IsNoShift h → GateRight a f h
    → (reaches h i ≡ true) ↔ Reached a f (formed h c (terms_of h c 0 ss)) i

-- Where no active delay begins, the same nodes, not one touched, stand for what a passing leaves.
abbrev pub TimePasses : Type 0
TimePasses = (a : Context) (d f c : ℕ) (s : Shape) → Fits c s → Calm a f s
    → IsUntroubled a f (term_of c s) → Passes a d f (term_of c s) (term_of (c + d) s)

abbrev pub NothingElsePasses : Type 0
NothingElsePasses = (a : Context) (d f c : ℕ) (s : Shape) → Fits c s → Calm a f s → (x : Term)
    → Passes a d f (term_of c s) x → x ≡ term_of (c + d) s

-- in a sound model they stay right, where nothing active changes its answers
abbrev pub StillRight : Type 0
StillRight = (a : Context) (d f c : ℕ) (s : Shape) → IsSound a.setting.model → Fits c s → Calm a f s
    → Steady a d f (term_of c s)
    → Right a f c s → Right (later a d) f (c + d) s

-- and sound
abbrev pub StillSound : Type 0
StillSound = (a : Context) (d f c : ℕ) (s : Shape) → IsSound a.setting.model → Calm a f s
    → Steady a d f (term_of c s)
    → Sound f c s → Sound f (c + d) s

-- Where no active delay begins, no active part names the clock, and what the topmost node keeps is due afterwards, all
-- this is so.
abbrev pub UnwokenIsCalm : Type 0
UnwokenIsCalm = (a : Context) (f c : ℕ) (s : Shape) → Right a f c s
    → starts a f (term_of c s) ≡ false → Calm a f s

abbrev pub UnwokenIsSteadyToo : Type 0
UnwokenIsSteadyToo = (a : Context) (d f c : ℕ) (s : Shape) → Right a f c s
    → starts a f (term_of c s) ≡ false → clocked a f (term_of c s) ≡ false
    → IsAfter (c + d) (payload s).kept.due → Steady a d f (term_of c s)

-- what rests and is asked nothing is right as soon as it is active, whatever happened before, with no node touched
abbrev pub RestsAreRight : Type 0
RestsAreRight = (a : Context) (f c : ℕ) (s : Shape) → asks (term_of c s) ≡ false → Rests f c s
    → Right a f c s

-- An action on the part at a place: what stands afterwards and what is lost is what stood, but for the part, what
-- that has become, and what opens.
abbrev pub FramesStandOrAreLost : Type 0
FramesStandOrAreLost = (h : Home) (n f : ℕ) (t : Term) (place : Place) (x : Process) → MayAct t place
    → times n (residual h f t place x).term + (count_in n (lost_all h f t place x) + times n (part_of t place)) ≡ times n t + times n x.term + count_in n (gained_all h f t place x)

-- in edition One nothing opens with frames
abbrev pub NoFramesOpenInOne : Type 0
NoFramesOpenInOne = (h : Home) (n f : ℕ) (t : Term) (place : Place) (x : Process) → h.edition ≡ One → count_in n (gained_all h f t place x) ≡ 0

-- nodes are no more than twice as deep as their term is high
abbrev pub NoDeeperThanHigh : Type 0
NoDeeperThanHigh = (c : ℕ) (s : Shape) → Whole s → depth s ≤ 2 * height (term_of c s)
