-- The internal actions of a process: which an active part can do, and what it then becomes.
use Rattle.std.specs.Prelude.{ℕ, Bool, if◌then◌else◌, List, length, Result, Ok}
use Rattle.pz_bind_rules.specs.pz_syntax.declared.tokens.Pos.{Pos}
use Rattle.pz_bind_rules.specs.pz_syntax.declared.names.Id.{Id}
use Rattle.pz_bind_rules.specs.pz_syntax.Statements.{skip, delay, block, conditional, repeated, call, value, no_statements, then, StatementPart}
use Rattle.pz_bind_rules.specs.pz_value.declared.value.ClassId.{ClassId}
use Rattle.pz_bind_rules.specs.pz_value.declared.value.Value.{Value}
use Rattle.pz_bind_rules.specs.pz_classes_code.declared.slot.Slot.{Slot}
use Rattle.pz_bind_rules.specs.pz_classes_rules.FitBodies.{how_many}
use Rattle.pz_offer.specs.pz_state.States.{StateView, opened as with_frame}
use Rattle.pz_offer.specs.declared.trouble.Trouble.{Trouble}
use Rattle.pz_rules.specs.declared.action.Kind.{Kind}
use Rattle.pz_rules.specs.declared.action.Kind.TheVariants.{Skip, Eval, Test, Expire, Call}
use Rattle.pz_rules.specs.Terms.{Code, Codes, Step, Steps, Term, done, leaf, wait, sequence}
use Rattle.pz_rules.specs.Framing.{framed}
use Rattle.pz_rules.specs.Opening.{opened_all, opened_part}
use Rattle.pz_rules.specs.Settings.{Context, Process, left_by, Home, home_of}
use Rattle.pz_rules.specs.FrameNumbers.{least_free}
use Rattle.pz_eval_binding.specs.Binding.{set_slots, first_slots}
use Rattle.pz_rules.specs.Meanings.{and_then, truth}
use Rattle.pz_rules.specs.Evaluations.{Gives, GivesAll, Lasts}
use Rattle.pz_rules.specs.Methods.{IsMethod}

-- in frame f this part can act, by an action of this kind, at this place of the text
pub data Can (a : Context) (f : ℕ) : Term → Kind → Pos → Type 0 where
  skips : (at : Pos) → Can a f (leaf (skip at)) Skip at
  evaluates : (at : Pos) (e : Code) → Can a f (leaf (value at e)) Eval at
  evaluates_block : (at : Pos) (es : Codes) → Can a f (leaf (block at es)) Eval at
  tests : (at : Pos) (e : Code) (ts : Steps) (other : StatementPart Slot ClassId ℕ) → Can a f (leaf (conditional at e ts other)) Test at
  repeats : (at : Pos) (e : Code) (ts : Steps) → Can a f (leaf (repeated at e ts)) Test at
  -- a delay of no time, and one of which nothing is left
  elapses : (at : Pos) (e : Code) → Lasts a f at e (Ok 0) → Can a f (leaf (delay at e)) Expire at
  expires : (at : Pos) → Can a f (wait 0 at) Expire at
  calls : (at : Pos) (method : Id) (args : Codes) (results : List Slot) → Can a f (leaf (call at method args results)) Call at

abbrev pub done_in : StateView → Process
done_in s = left_by s done

-- the chosen part
abbrev pub chosen : Home → StateView → Steps → StatementPart Slot ClassId ℕ → Bool → Process
chosen h s ts other b = if b then opened_all h ts s else opened_part h other s

-- before the same loop
abbrev pub before_loop : Step → Process → Process
before_loop loop x = left_by x.state (sequence x.term ((then) loop no_statements))

-- the body, and then the same loop
abbrev pub turned : Home → StateView → Step → Steps → Bool → Process
turned h s loop ts b = if b then before_loop loop (opened_all h ts s) else done_in s

-- a frame of this number, whose first locals have these values and whose others are nil
abbrev pub with_inputs : StateView → ℕ → ℕ → List Value → StateView
with_inputs s number locals inputs = set_slots number (first_slots 0 inputs) inputs (with_frame s number locals)

-- a further frame round the body, which opens in it
abbrev pub entered : Home → StateView → ℕ → List Slot → Steps → List Value → Process
entered h s locals results body inputs =
    let number = least_free s.frames in
    let x = opened_all h body (with_inputs s number locals inputs) in
    left_by x.state (framed number (length inputs) results x.term)

-- What the acting part becomes, and the state afterwards; or the trouble of its evaluation. Each action
-- has the place of its statement. It holds of a delay whatever is left of it, and so of parts that cannot
-- act: those that can are those of `Can`, which alone are offered.
pub data Performs (a : Context) (f : ℕ) : Term → Pos → Result Process Trouble → Type 0 where
  skips : (at : Pos) → Performs a f (leaf (skip at)) at (Ok (done_in a.state))
  evaluates : (at : Pos) (e : Code) (r : Result Value Trouble) (s : StateView) → Gives a f at e r s
      → Performs a f (leaf (value at e)) at (and_then r (λ _. Ok (done_in s)))
  evaluates_block : (at : Pos) (es : Codes) (r : Result (List Value) Trouble) (s : StateView) → GivesAll a f at es r s
      → Performs a f (leaf (block at es)) at (and_then r (λ _. Ok (done_in s)))
  tests : (at : Pos) (e : Code) (ts : Steps) (other : StatementPart Slot ClassId ℕ) (r : Result Value Trouble) (s : StateView) → Gives a f at e r s
      → Performs a f (leaf (conditional at e ts other)) at (and_then r (λ v. and_then (truth a.process at v) (λ b. Ok (chosen (home_of a) s ts other b))))
  repeats : (at : Pos) (e : Code) (ts : Steps) (r : Result Value Trouble) (s : StateView) → Gives a f at e r s
      → Performs a f (leaf (repeated at e ts)) at (and_then r (λ v. and_then (truth a.process at v) (λ b. Ok (turned (home_of a) s (repeated at e ts) ts b))))
  -- the evaluation of a delay leaves nothing
  elapses : (at : Pos) (e : Code) → Performs a f (leaf (delay at e)) at (Ok (done_in a.state))
  expires : (left : ℕ) (at : Pos) → Performs a f (wait left at) at (Ok (done_in a.state))
  calls : (at : Pos) (method : Id) (args : Codes) (results : List Slot) (r : Result (List Value) Trouble) (s : StateView) (locals : ℕ) (body : Steps)
      → GivesAll a f at args r s → IsMethod a.setting.model a.class method.name (how_many args) (length results) locals body
      → Performs a f (leaf (call at method args results)) at (and_then r (λ vs. Ok (entered (home_of a) s locals results body vs)))
