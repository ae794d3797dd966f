-- Laws of what is computed.
use Rattle.std.specs.Prelude.{◌≡◌, ◌+◌, ℕ, true, Option, None}
use Rattle.pz_rules.specs.pz_eval_rules.Clocks.{DataIsTimeless}
use Rattle.pz_nodes_shapes.specs.Rose.{node, none, more, with_kid}
use Rattle.pz_rules.specs.Leaving.{replaced}
use Rattle.pz_rules.specs.Settings.{Context}
use Rattle.pz_rules.specs.devices.Passing.{passed}
use Rattle.pz_tree_standing.specs.Summaries.{summary_of}
use Rattle.pz_tree_standing.specs.Steady.{later, Steady}
use Rattle.pz_tree_standing.specs.Heads.{Head, What, Shape, Shapes, inner_clock, inner_frame, formed, shifted}
use Rattle.pz_tree_standing.specs.Standing.{term_of, terms_of, term_of_option, HeadFits, Fits, FitAll, FitsOption}
use Rattle.pz_tree_standing.specs.Resting.{RestAll, RestsOption}
use Rattle.pz_tree_standing.specs.Reached.{reaches, GateRight}
use Rattle.pz_tree_standing.specs.Right.{Right, RightAll, RightOption}
use Rattle.pz_tree_standing.specs.Sound.{Sound}
use Rattle.pz_tree_standing.specs.Calm.{Calm}
use Rattle.pz_tree_standing.specs.devices.Written.{node_summary}

abbrev pub TimePassesComputed : Type 0
TimePassesComputed = (a : Context) (d f c : ℕ) (s : Shape) → Fits c s → Calm a f s
    → term_of (c + d) s ≡ passed a d f (term_of c s)

abbrev pub StillRightComputed : Type 0
StillRightComputed = (a : Context) (d f c : ℕ) (s : Shape) → DataIsTimeless a.setting.model
    → Fits c s → Calm a f s → Steady a d f (term_of c s)
    → Right a f c s → Right (later a d) f (c + d) s

abbrev pub StillSoundComputed : Type 0
StillSoundComputed = (a : Context) (d f c : ℕ) (s : Shape) → DataIsTimeless a.setting.model
    → Calm a f s → Steady a d f (term_of c s)
    → Sound f c s → Sound f (c + d) s

-- what a node is to keep, from what its active children keep, is the summary of its term
abbrev pub WrittenIsSummary : Type 0
WrittenIsSummary = (a : Context) (f c : ℕ) (h : Head) (ss : Shapes) → HeadFits h c → GateRight a f h
    → RightAll a (inner_frame h f) h c 0 ss
    → node_summary a f c h ss ≡ summary_of a c f (formed h c (terms_of h c 0 ss))

-- and a node that keeps it is right
abbrev pub WrittenIsRight : Type 0
WrittenIsRight = (a : Context) (f c k : ℕ) (x : What) (ss : Shapes) → HeadFits x.head c
    → GateRight a f x.head → RightAll a (inner_frame x.head f) x.head c 0 ss
    → x.kept ≡ node_summary a f c x.head ss → Right a f c (node k x ss)

-- a child becomes another, or is gone: so do the terms,
abbrev pub ChildTerms : Type 0
ChildTerms = (h : Head) (c i : ℕ) (ss : Shapes) (n : ℕ) (x : Option Shape)
    → terms_of h c i (with_kid ss n x) ≡ replaced (terms_of h c i ss) n (term_of_option (inner_clock h (i + n) c) x)

-- and what is so of the children stays so
abbrev pub ChildFits : Type 0
ChildFits = (h : Head) (c i : ℕ) (ss : Shapes) (n : ℕ) (x : Option Shape)
    → FitAll h c i ss → FitsOption (inner_clock h (i + n) c) x → FitAll h c i (with_kid ss n x)

abbrev pub ChildRests : Type 0
ChildRests = (f : ℕ) (h : Head) (c i : ℕ) (ss : Shapes) (n : ℕ) (x : Option Shape)
    → RestAll f h c i ss → RestsOption f (inner_clock h (i + n) c) x
    → RestAll f h c i (with_kid ss n x)

abbrev pub ChildRight : Type 0
ChildRight = (a : Context) (f : ℕ) (h : Head) (c i : ℕ) (ss : Shapes) (n : ℕ) (x : Option Shape)
    → RightAll a f h c i ss
    → (reaches h (i + n) ≡ true → RightOption a f (inner_clock h (i + n) c) x)
    → RightAll a f h c i (with_kid ss n x)

-- two shift nodes, one under the other, stand for the same as one that is behind by both
abbrev pub ShiftsAdd : Type 0
ShiftsAdd = (c b1 b2 j k : ℕ) (x y z : What) (s : Shape)
    → x.head ≡ shifted (record { behind = b1; since = None })
    → y.head ≡ shifted (record { behind = b2; since = None })
    → z.head ≡ shifted (record { behind = b1 + b2; since = None })
    → term_of c (node j x (more (node k y (more s none)) none)) ≡ term_of c (node j z (more s none))
