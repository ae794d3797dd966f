-- What a node becomes in which something wakes, and what it says of itself.
use Rattle.std.specs.Prelude.{◌≡◌, ◌||◌, ◌+◌, if◌then◌else◌, ◌==◌, ℕ, suc, Bool, true, false, Option, Some, None}
use Rattle.pz_classes_code.specs.pz_syntax.declared.tokens.Pos.{Pos}
use Rattle.pz_classes_code.specs.pz_syntax.Statements.{delay, send}
use Rattle.pz_tree_refreshing.specs.pz_eval_rules.Clocks.{names_clock, part_names_clock, DataIsTimeless}
use Rattle.pz_tree_refreshing.specs.pz_offer.Summaries.{nothing, join}
use Rattle.pz_tree_refreshing.specs.pz_rules.Settings.{Context}
use Rattle.pz_tree_refreshing.specs.pz_rules.Terms.{Step, Term, Terms, no_terms, and}
use Rattle.pz_tree_refreshing.specs.pz_rules.devices.Passing.{passed}
use Rattle.pz_tree_refreshing.specs.pz_tree_standing.Asked.{statement_asks}
use Rattle.pz_tree_refreshing.specs.pz_tree_standing.Steady.{later}
use Rattle.pz_tree_refreshing.specs.pz_tree_standing.Summaries.{summary_of}
use Rattle.pz_tree_refreshing.specs.pz_tree_standing.Woken.{starts, clocked}
use Rattle.pz_clock.specs.Shifts.{is_running}
use Rattle.pz_tree_refreshing.specs.pz_tree_standing.Heads as heads
use Rattle.pz_tree_refreshing.specs.pz_tree_standing.Heads.{Head, Shapes, inner_clock, inner_frame, formed}
use Rattle.pz_tree_refreshing.specs.pz_tree_standing.Standing.{HeadFits}
use Rattle.pz_tree_refreshing.specs.pz_tree_standing.Reached.{reaches, GateRight}
use Rattle.pz_tree_refreshing.specs.pz_tree_standing.Whole.{IsNoShift, HasParts}
use Rattle.pz_tree_refreshing.specs.pz_tree_nodes.declared.kept.Kept.{Kept}
use Rattle.pz_tree_refreshing.specs.pz_tree_nodes.Keeping.{HasFlags, kept_none}
use Rattle.pz_tree_refreshing.specs.pz_rules.Short.{IsShort, AreShort}
use Rattle.pz_tree_refreshing.specs.pz_tree_standing.Soon.{HasRoom, IsSoon}
use Rattle.pz_tree_refreshing.specs.devices.Reached.{reached_sum}
use Rattle.pz_tree_elapsing.specs.declared.turning.Turn.{Turn}
use Rattle.pz_tree_elapsing.specs.declared.turning.Turn.TheVariants.{Same, Shut, Opened}
use Rattle.pz_tree_elapsing.specs.Waking.{wakes}
use Rattle.pz_tree_elapsing.specs.Elapsing.{IsNotBefore}

-- ------------------------------------------------------------ what is asked

-- something is asked at the node itself
abbrev pub own_asks : Head → Bool
own_asks (heads.leaf s) = statement_asks s
own_asks (heads.guarded e at s) = true
own_asks h = false

abbrev pub statement_asked_anew : Step → Bool
statement_asked_anew (send at port name args after) = part_names_clock args
statement_asked_anew s = false

-- it is asked something that names the clock, and does not begin
abbrev pub asked_anew : Head → Bool
asked_anew (heads.leaf s) = statement_asked_anew s
asked_anew (heads.guarded e at s) = names_clock e
asked_anew h = false

-- the place of a delay that has not begun
abbrev pub begins_at : Step → Option Pos
begins_at (delay at e) = Some at
begins_at s = None

-- a delay that has begun and is over at that moment, where the clock shows c
abbrev pub kept_of_wait : ℕ → ℕ → Kept
kept_of_wait c due = record kept_none {
  summary = record nothing { internal = if due == c then 1 else 0; due = Some due };
}

-- ------------------------------------------------------------ gates

abbrev pub turn_by : Bool → Bool → Turn
turn_by true true = Same
turn_by true false = Shut
turn_by false true = Opened
turn_by false false = Same

-- what a node has become whose first child was active, or not
abbrev pub turn_of : Bool → Head → Turn
turn_of was (heads.guarded e at s) = turn_by was (is_running s)
turn_of was h = Same

-- h has become g
abbrev pub Turns : Turn → Head → Head → Type 0
Turns Same h g = (i : ℕ) → reaches g i ≡ reaches h i
Turns Shut h g = ((i : ℕ) → reaches g i ≡ false) × (own_asks g ≡ true)
Turns Opened h g = ((i : ℕ) → reaches h i ≡ false) × ((i : ℕ) → reaches g (suc i) ≡ false) × (reaches g 0 ≡ true) × (own_asks g ≡ true)

-- ------------------------------------------------------------ terms

-- time passes over those of these children that are active, of which the first has number i; they stand in frame f
abbrev pub if_reached : Bool → Term → Term → Term
if_reached true x t = x
if_reached false x t = t

abbrev pub passed_reached : Context → ℕ → ℕ → Head → ℕ → Terms → Terms
passed_reached a d f h i no_terms = no_terms
passed_reached a d f h i (and t ts) = and (if_reached (reaches h i) (passed a d f t) t) (passed_reached a d f h (suc i) ts)

-- ------------------------------------------------------------ one node

-- a node h over these terms, in frame f, where its clock shows c, and which keeps this: something wakes in it
pub record IsWaking (a : Context) (d f c : ℕ) (h : Head) (ts : Terms) (k : Kept) : Type 0 where
  pub fits : HeadFits h c
  pub gate : GateRight a f h
  pub timeless : DataIsTimeless a.setting.model
  pub summary : k.summary ≡ summary_of a c f (formed h c ts)
  pub flags : HasFlags a f (formed h c ts) k
  pub untroubled : k.summary.trouble ≡ None
  pub within : IsNotBefore (c + d) k.summary.due
  pub soon : IsSoon c k.summary.due
  pub woken : wakes (c + d) k ≡ true
  pub short : IsShort (formed h c ts)
  pub room : HasRoom (c + d)

-- It has become g, where time d has passed over its active children, and this is what it adds to what its active
-- children keep then.
pub record IsWoken (a : Context) (d f c : ℕ) (h g : Head) (own : Kept) : Type 0 where
  pub fits : HeadFits g (c + d)
  pub gate : GateRight (later a d) f g
  pub clocks : (i : ℕ) → inner_clock g i (c + d) ≡ inner_clock h i (c + d)
  pub frame : (n : ℕ) → inner_frame g n ≡ inner_frame h n
  pub passes : (ts : Terms) → formed g (c + d) (passed_reached a d (inner_frame h f) h 0 ts) ≡ passed a d f (formed h c ts)
  pub parts : (ss : Shapes) → HasParts h ss → HasParts g ss
  pub bare : IsNoShift h → IsNoShift g
  pub summary : (ts : Terms) → summary_of (later a d) (c + d) f (formed g (c + d) ts) ≡ join own.summary (reached_sum nothing join g (summary_of (later a d) (c + d) (inner_frame g f)) 0 ts)
  pub starts : (ts : Terms) → starts (later a d) f (formed g (c + d) ts) ≡ own.starts || reached_sum false ◌||◌ g (starts (later a d) (inner_frame g f)) 0 ts
  pub clocked : (ts : Terms) → clocked (later a d) f (formed g (c + d) ts) ≡ own.clocked || reached_sum false ◌||◌ g (clocked (later a d) (inner_frame g f)) 0 ts
  pub soon : IsSoon (c + d) own.summary.due
  pub short : (ts : Terms) → AreShort ts → IsShort (formed g (c + d) ts)
  pub turns : Turns (turn_of (reaches h 0) g) h g

abbrev pub WakeRule : Context → ℕ → ℕ → ℕ → Head → Kept → Head → Kept → Type 0
WakeRule a d f c h k g own = (ts : Terms) → IsWaking a d f c h ts k → IsWoken a d f c h g own
