-- Evaluations whose effects stay, of which the values are dropped.
use Rattle.std.specs.Prelude.{◌≡◌, ℕ, Bool, List, Result, Ok, Err}
use Rattle.pz_classes_code.specs.pz_syntax.declared.tokens.Pos.{Pos}
use Rattle.pz_classes_code.specs.pz_syntax.Expressions.{Part}
use Rattle.pz_classes_code.specs.pz_value.declared.value.ClassId.{ClassId}
use Rattle.pz_classes_code.specs.pz_value.declared.value.Value.{Value}
use Rattle.pz_classes_code.specs.declared.slot.Slot.{Slot}
use Rattle.pz_rules.specs.pz_state.States.{StateView}
use Rattle.pz_rules.specs.pz_offer.declared.trouble.Trouble.{Trouble}
use Rattle.pz_rules.specs.Terms.{Code}
use Rattle.pz_rules.specs.Settings.{Context, in_state}
use Rattle.pz_rules.specs.Meanings.{and_then, truth}
use Rattle.pz_rules.specs.Evaluations.{Gives, GivesPart}

-- a test, and the state that it leaves
pub record Tested (a : Context) (f : ℕ) (at : Pos) (e : Code) (r : Result Bool Trouble) (s : StateView) : Type 0 where
  pub found : Result Value Trouble
  pub gives : Gives a f at e found s
  pub means : r ≡ and_then found (truth a.process at)

abbrev pub ran : {A : Type 0} → Result A Trouble → Result (Unit {0}) Trouble
ran found = and_then found (λ _. Ok tt)

-- expressions that may be left out, and the state that they leave
pub record Ran (a : Context) (f : ℕ) (at : Pos) (es : Part Slot ClassId) (r : Result (Unit {0}) Trouble) (s : StateView) : Type 0 where
  pub found : Result (List Value) Trouble
  pub gives : GivesPart a f at es found s
  pub means : r ≡ ran found

-- some, and others behind them
pub data RunsBoth (a : Context) (f : ℕ) (at : Pos) (es fs : Part Slot ClassId) : Result (Unit {0}) Trouble → StateView → Type 0 where
  both : (values : List Value) (s : StateView) (r : Result (Unit {0}) Trouble) (left : StateView)
      → GivesPart a f at es (Ok values) s → Ran (in_state a s) f at fs r left → RunsBoth a f at es fs r left
  fails : (trouble : Trouble) (s : StateView) → GivesPart a f at es (Err trouble) s → RunsBoth a f at es fs (Err trouble) s
