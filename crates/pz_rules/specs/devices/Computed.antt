-- What is computed of evaluations and of the passing of time is what the rules derive.
use Rattle.std.specs.Prelude.{◌≡◌, ℕ, Bool, List, Result}
use Rattle.pz_bind_rules.specs.pz_syntax.declared.tokens.Pos.{Pos}
use Rattle.pz_bind_rules.specs.pz_syntax.Expressions.{Part}
use Rattle.pz_bind_rules.specs.pz_value.declared.value.ClassId.{ClassId}
use Rattle.pz_bind_rules.specs.pz_value.declared.value.Value.{Value}
use Rattle.pz_bind_rules.specs.pz_classes_code.declared.slot.Slot.{Slot}
use Rattle.pz_offer.specs.pz_state.States.{StateView}
use Rattle.pz_offer.specs.PlaceOrder.{Place}
use Rattle.pz_offer.specs.declared.trouble.Trouble.{Trouble}
use Rattle.pz_rules.specs.Terms.{Code, Term}
use Rattle.pz_rules.specs.Settings.{Context}
use Rattle.pz_rules.specs.Active.{Active}
use Rattle.pz_rules.specs.Asking.{Asks}
use Rattle.pz_rules.specs.Evaluations.{Tests, Lasts, GivesPart}
use Rattle.pz_rules.specs.Delays.{Passes}
use Rattle.pz_rules.specs.devices.Found.{tested, lasting, found_part, left_part}
use Rattle.pz_rules.specs.devices.Passing.{passed}

abbrev pub TestsAreComputed : Type 0
TestsAreComputed = (a : Context) (f : ℕ) (at : Pos) (e : Code) (r : Result Bool Trouble) → Tests a f at e r → r ≡ tested a f at e

abbrev pub TimesAreComputed : Type 0
TimesAreComputed = (a : Context) (f : ℕ) (at : Pos) (e : Code) (r : Result ℕ Trouble) → Lasts a f at e r → r ≡ lasting a f at e

abbrev pub PartsAreComputed : Type 0
PartsAreComputed = (a : Context) (f : ℕ) (at : Pos) (es : Part Slot ClassId) (r : Result (List Value) Trouble) (s : StateView)
    → GivesPart a f at es r s → (r ≡ found_part a f at es) × (s ≡ left_part a f es)

-- nothing that an active part is asked has a trouble
abbrev pub IsUntroubled : Context → ℕ → Term → Type 0
IsUntroubled a f t = (place : Place) (g : ℕ) (part : Term) (trouble : Trouble) → Active a f t place g part → Asks a g part trouble → ⊥

abbrev pub OnePassingIsComputed : Type 0
OnePassingIsComputed = (a : Context) (d f : ℕ) (t x : Term) → Passes a d f t x → x ≡ passed a d f t

abbrev pub PassingIsComputed : Type 0
PassingIsComputed = (a : Context) (d f : ℕ) (t : Term) → IsUntroubled a f t → Passes a d f t (passed a d f t)
