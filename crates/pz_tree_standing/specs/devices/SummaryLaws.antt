-- Laws of what is computed.
use Rattle.std.specs.Prelude.{◌≡◌, ◌+◌, ℕ, false}
use Rattle.pz_rules.specs.pz_syntax.declared.tokens.Pos.{Pos}
use Rattle.pz_rules.specs.pz_eval_rules.Clocks.{names_clock, DataIsTimeless}
use Rattle.pz_rules.specs.Terms.{Code, Term}
use Rattle.pz_rules.specs.Settings.{Context}
use Rattle.pz_rules.specs.devices.Found.{tested}
use Rattle.pz_rules.specs.devices.Passing.{passed}
use Rattle.pz_tree_standing.specs.Summaries.{summary_of}
use Rattle.pz_tree_standing.specs.Steady.{later, Steady}

-- a test that does not name the clock comes to the same later
abbrev pub TestIsSteady : Type 0
TestIsSteady = (a : Context) (d f : ℕ) (at : Pos) (e : Code) → DataIsTimeless a.setting.model
    → names_clock e ≡ false
    → tested (later a d) f at e ≡ tested a f at e

-- what is left of a steady term as time passes, as it is computed, has the summary from before
abbrev pub SteadySummaryIsComputed : Type 0
SteadySummaryIsComputed = (a : Context) (d c f : ℕ) (t : Term) → DataIsTimeless a.setting.model
    → Steady a d f t
    → summary_of (later a d) (c + d) f (passed a d f t) ≡ summary_of a c f t
