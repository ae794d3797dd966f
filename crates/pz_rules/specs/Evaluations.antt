-- Evaluations of the statements of a process: what they give, or the trouble that they are. A
-- tentative one is the same with the state afterwards dropped.
use Rattle.std.specs.Prelude.{◌≡◌, ℕ, Bool, List, [], Result, Ok, Err}
use Rattle.pz_bind_rules.specs.pz_syntax.declared.tokens.Pos.{Pos}
use Rattle.pz_bind_rules.specs.pz_syntax.Expressions.{Part, left_out, written}
use Rattle.pz_bind_rules.specs.pz_value.declared.value.ClassId.{ClassId}
use Rattle.pz_bind_rules.specs.pz_value.declared.value.Value.{Value}
use Rattle.pz_bind_rules.specs.pz_classes_code.declared.slot.Slot.{Slot}
use Rattle.pz_offer.specs.pz_state.States.{StateView}
use Rattle.pz_offer.specs.declared.trouble.Trouble.{Trouble}
use Rattle.pz_offer.specs.declared.trouble.Trouble.TheVariants.{Fault, Spent}
use Rattle.pz_eval_rules.specs.declared.allowance.Allowance.{Allowance}
use Rattle.pz_eval_rules.specs.declared.outcome.Outcome.{Outcome}
use Rattle.pz_eval_rules.specs.declared.outcome.Outcome.TheVariants as outcome
use Rattle.pz_eval_rules.specs.declared.outcome.Listed.{Listed}
use Rattle.pz_eval_rules.specs.declared.outcome.Listed.TheVariants as listed
use Rattle.pz_eval_rules.specs.Outcomes.{Finds, FindsAll}
use Rattle.pz_rules.specs.declared.limits.Limits.{Limits}
use Rattle.pz_rules.specs.Terms.{Code, Codes}
use Rattle.pz_rules.specs.Settings.{Context}
use Rattle.pz_rules.specs.Meanings.{and_then, truth, duration}

-- one evaluation has one allowance
abbrev pub allowance : Limits → Allowance
allowance limits = record { units = limits.units; depth = limits.depth }

-- the value; or what is wrong at its place, and a spent allowance at that of the statement
abbrev pub value_or_trouble : ℕ → Pos → Outcome → Result Value Trouble
value_or_trouble i at (outcome.Value v) = Ok v
value_or_trouble i at (outcome.Fault kind place) = Err (Fault kind i place)
value_or_trouble i at outcome.Spent = Err (Spent i at)

abbrev pub values_or_trouble : ℕ → Pos → Listed → Result (List Value) Trouble
values_or_trouble i at (listed.Values vs) = Ok vs
values_or_trouble i at (listed.Fault kind place) = Err (Fault kind i place)
values_or_trouble i at listed.Spent = Err (Spent i at)

-- in frame f an expression of the statement at this place gives this, and leaves this state
pub record Gives (a : Context) (f : ℕ) (at : Pos) (e : Code) (r : Result Value Trouble) (s : StateView) : Type 0 where
  pub outcome : Outcome
  pub finds : Finds a.setting.model a.clock f a.state e (allowance a.setting.limits) outcome s
  pub means : r ≡ value_or_trouble a.process at outcome

-- expressions that are evaluated together, from left to right
pub record GivesAll (a : Context) (f : ℕ) (at : Pos) (es : Codes) (r : Result (List Value) Trouble) (s : StateView) : Type 0 where
  pub outcome : Listed
  pub finds : FindsAll a.setting.model a.clock f a.state es (allowance a.setting.limits) outcome s
  pub means : r ≡ values_or_trouble a.process at outcome

-- what is not written is not evaluated
abbrev pub GivesPart : Context → ℕ → Pos → Part Slot ClassId → Result (List Value) Trouble → StateView → Type 0
GivesPart a f at left_out r s = (r ≡ Ok []) × (s ≡ a.state)
GivesPart a f at (written es) r s = GivesAll a f at es r s

-- a test, which is true or false
pub record Tests (a : Context) (f : ℕ) (at : Pos) (e : Code) (r : Result Bool Trouble) : Type 0 where
  pub found : Result Value Trouble
  pub left : StateView
  pub gives : Gives a f at e found left
  pub means : r ≡ and_then found (truth a.process at)

-- the time that a delay takes
pub record Lasts (a : Context) (f : ℕ) (at : Pos) (e : Code) (r : Result ℕ Trouble) : Type 0 where
  pub found : Result Value Trouble
  pub left : StateView
  pub gives : Gives a f at e found left
  pub means : r ≡ and_then found (duration a.process at)
