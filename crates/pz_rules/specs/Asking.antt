-- The troubles of what an active part is asked at every moment: the test of a guard, the time of a
-- delay that has not begun, and the arguments of a send.
use Rattle.std.specs.Prelude.{ℕ, Err}
use Rattle.pz_bind_rules.specs.pz_syntax.declared.tokens.Pos.{Pos}
use Rattle.pz_bind_rules.specs.pz_syntax.declared.names.Id.{Id}
use Rattle.pz_bind_rules.specs.pz_syntax.Expressions.{Part}
use Rattle.pz_bind_rules.specs.pz_syntax.Statements.{delay, send}
use Rattle.pz_bind_rules.specs.pz_value.declared.value.ClassId.{ClassId}
use Rattle.pz_bind_rules.specs.pz_classes_code.declared.slot.Slot.{Slot}
use Rattle.pz_offer.specs.pz_state.States.{StateView}
use Rattle.pz_offer.specs.declared.trouble.Trouble.{Trouble}
use Rattle.pz_rules.specs.Terms.{Code, Term, leaf, guarded}
use Rattle.pz_rules.specs.Settings.{Context}
use Rattle.pz_rules.specs.Evaluations.{GivesPart, Lasts, Tests}

pub data Asks (a : Context) (f : ℕ) : Term → Trouble → Type 0 where
  guard : (test : Code) (at : Pos) (t : Term) (trouble : Trouble) → Tests a f at test (Err trouble) → Asks a f (guarded test at t) trouble
  time : (at : Pos) (e : Code) (trouble : Trouble) → Lasts a f at e (Err trouble) → Asks a f (leaf (delay at e)) trouble
  arguments : (at : Pos) (port : ℕ) (name : Id) (args block : Part Slot ClassId) (trouble : Trouble) (s : StateView) → GivesPart a f at args (Err trouble) s → Asks a f (leaf (send at port name args block)) trouble
