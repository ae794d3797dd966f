-- What a node says when it is asked.
use Rattle.std.specs.Prelude.{◌≡◌, ◌==◌, ◌||◌, ◌+◌, if◌then◌else◌, ℕ, Bool, true, false, Option, Some, None, Result, Ok, Err}
use Rattle.pz_clock.specs.Shifts.{ShiftView, is_running, local, ShiftFits}
use Rattle.pz_tree_nodes.specs.pz_copy.Parcels.{ParcelView}
use Rattle.pz_tree_nodes.specs.pz_offer.declared.summary.Summary.{Summary}
use Rattle.pz_tree_nodes.specs.pz_offer.declared.trouble.Trouble.{Trouble}
use Rattle.pz_tree_nodes.specs.pz_offer.Summaries.{nothing, join}
use Rattle.pz_tree_nodes.specs.pz_rules.Settings.{Context}
use Rattle.pz_tree_nodes.specs.pz_rules.Terms.{Step, Terms, leaf}
use Rattle.pz_tree_nodes.specs.pz_tree_standing.Asked.{statement_asks}
use Rattle.pz_tree_nodes.specs.pz_tree_standing.Summaries.{summary_of}
use Rattle.pz_tree_nodes.specs.pz_tree_standing.Woken.{statement_begins, statement_names_clock, starts, clocked}
use Rattle.pz_tree_nodes.specs.pz_tree_standing.devices.Tallies.{own_summary}
use Rattle.pz_tree_nodes.specs.pz_tree_standing.Heads as heads
use Rattle.pz_tree_nodes.specs.pz_tree_standing.Heads.{Head, Shapes, inner_clock, inner_frame, formed}
use Rattle.pz_tree_nodes.specs.pz_tree_standing.Standing.{HeadFits}
use Rattle.pz_tree_nodes.specs.pz_tree_standing.Reached.{GateRight}
use Rattle.pz_tree_nodes.specs.pz_tree_standing.Whole.{IsNoShift, HasParts}
use Rattle.pz_tree_nodes.specs.declared.kept.Kept.{Kept}
use Rattle.pz_tree_nodes.specs.Keeping.{kept_none}
use Rattle.pz_tree_nodes.specs.pz_tree_standing.Soon.{HasRoom, IsSoon}
use Rattle.pz_tree_refreshing.specs.devices.Reached.{reached_sum}

-- something may be asked at it or below it
abbrev pub MayAsk : Head → Type 0
MayAsk (heads.leaf s) = statement_asks s ≡ true
MayAsk (heads.wait due at) = ⊥
MayAsk h = Unit {0}

-- a statement that has not begun says this of itself
pub record SaysItself (a : Context) (f c : ℕ) (s : Step) (own : Kept) : Type 0 where
  pub summary : own.summary ≡ own_summary a c f (leaf s)
  pub starts : own.starts ≡ statement_begins s
  pub clocked : own.clocked ≡ statement_names_clock s
  pub soon : IsSoon c own.summary.due

-- a guard whose test has this trouble or none, and names the clock or does not
abbrev pub kept_of_guard : Option Trouble → Bool → Kept
kept_of_guard trouble clocked = record kept_none { summary = record nothing { trouble = trouble }; clocked = clocked }

-- what has a trouble
abbrev pub troubled : Trouble → Kept
troubled t = record kept_none { summary = record nothing { trouble = Some t } }

-- a delay whose time came to this
abbrev pub delay_summary : ℕ → Result ℕ Trouble → Summary
delay_summary c (Ok left) = record nothing { internal = if left == 0 then 1 else 0; due = Some (c + left) }
delay_summary c (Err t) = record nothing { trouble = Some t }

pub record DelaySays (c : ℕ) (r : Result ℕ Trouble) (own : Kept) : Type 0 where
  pub summary : own.summary ≡ delay_summary c r
  pub starts : own.starts ≡ true
  pub soon : IsSoon c own.summary.due

-- a send whose arguments came to this
abbrev pub kept_of_send : Result ParcelView Trouble → Kept
kept_of_send (Ok parcel) = record kept_none { summary = record nothing { sends = 1 } }
kept_of_send (Err t) = troubled t

-- In frame f, where its clock shows c: it stands for the same, its gate is right, and this is what it adds to what its
-- active children keep.
pub record IsAsked (a : Context) (f c : ℕ) (old new : Head) (own : Kept) : Type 0 where
  pub fits : HeadFits new c
  pub gate : GateRight a f new
  pub clocks : (i : ℕ) → inner_clock new i c ≡ inner_clock old i c
  pub frame : (g : ℕ) → inner_frame new g ≡ inner_frame old g
  pub forms : (ts : Terms) → formed new c ts ≡ formed old c ts
  pub parts : (ss : Shapes) → HasParts old ss → HasParts new ss
  pub bare : IsNoShift old → IsNoShift new
  pub summary : (ts : Terms) → summary_of a c f (formed new c ts) ≡ join own.summary (reached_sum nothing join new (summary_of a c (inner_frame new f)) 0 ts)
  pub starts : (ts : Terms) → starts a f (formed new c ts) ≡ own.starts || reached_sum false ◌||◌ new (starts a (inner_frame new f)) 0 ts
  pub clocked : (ts : Terms) → clocked a f (formed new c ts) ≡ own.clocked || reached_sum false ◌||◌ new (clocked a (inner_frame new f)) 0 ts
  pub soon : IsSoon c own.summary.due

abbrev pub AskRule : Context → ℕ → ℕ → Head → Head → Kept → Type 0
AskRule a f c old new own = HeadFits old c → MayAsk old → HasRoom c → IsAsked a f c old new own

-- the clock behind a guard whose test came to this
pub record IsGated (c : ℕ) (s : ShiftView) (runs_on : Bool) (t : ShiftView) : Type 0 where
  pub fits : ShiftFits t c
  pub local : local t c ≡ local s c
  pub runs : is_running t ≡ runs_on

-- whether a test is true, and its trouble
abbrev pub IsAnswer : Result Bool Trouble → Bool → Option Trouble → Type 0
IsAnswer (Ok b) is_open trouble = (is_open ≡ b) × (trouble ≡ None)
IsAnswer (Err t) is_open trouble = (is_open ≡ false) × (trouble ≡ Some t)
