-- What the evaluations of a process give, computed.
use Rattle.std.specs.Prelude.{ℕ, Bool, List, [], Result, Ok}
use Rattle.pz_bind_rules.specs.pz_syntax.declared.tokens.Pos.{Pos}
use Rattle.pz_bind_rules.specs.pz_syntax.Expressions.{Part, left_out, written}
use Rattle.pz_bind_rules.specs.pz_value.declared.value.ClassId.{ClassId}
use Rattle.pz_bind_rules.specs.pz_value.declared.value.Value.{Value}
use Rattle.pz_bind_rules.specs.pz_classes_code.declared.slot.Slot.{Slot}
use Rattle.pz_offer.specs.pz_state.States.{StateView}
use Rattle.pz_offer.specs.declared.trouble.Trouble.{Trouble}
use Rattle.pz_eval_rules.specs.devices.Computed.{Reached}
use Rattle.pz_eval_rules.specs.devices.Outcomes.{reached_value, reached_list, outcome_of, listed_of, state_after}
use Rattle.pz_rules.specs.Terms.{Code, Codes}
use Rattle.pz_rules.specs.Settings.{Context}
use Rattle.pz_rules.specs.Meanings.{and_then, truth, duration}
use Rattle.pz_rules.specs.Evaluations.{allowance, value_or_trouble, values_or_trouble}

abbrev pub reached : Context → ℕ → Code → Reached Value
reached a f e = reached_value a.setting.model a.clock f a.state e (allowance a.setting.limits)

abbrev pub reached_all : Context → ℕ → Codes → Reached (List Value)
reached_all a f es = reached_list a.setting.model a.clock f a.state es (allowance a.setting.limits)

-- the value or the trouble of an expression, and the state afterwards
abbrev pub found : Context → ℕ → Pos → Code → Result Value Trouble
found a f at e = value_or_trouble a.process at (outcome_of (reached a f e))

abbrev pub left : Context → ℕ → Code → StateView
left a f e = state_after a.state (reached a f e)

-- those of expressions that are evaluated together
abbrev pub found_all : Context → ℕ → Pos → Codes → Result (List Value) Trouble
found_all a f at es = values_or_trouble a.process at (listed_of (reached_all a f es))

abbrev pub left_all : Context → ℕ → Codes → StateView
left_all a f es = state_after a.state (reached_all a f es)

abbrev pub found_part : Context → ℕ → Pos → Part Slot ClassId → Result (List Value) Trouble
found_part a f at left_out = Ok []
found_part a f at (written es) = found_all a f at es

abbrev pub left_part : Context → ℕ → Part Slot ClassId → StateView
left_part a f left_out = a.state
left_part a f (written es) = left_all a f es

-- a test, and the time of a delay
abbrev pub tested : Context → ℕ → Pos → Code → Result Bool Trouble
tested a f at e = and_then (found a f at e) (truth a.process at)

abbrev pub lasting : Context → ℕ → Pos → Code → Result ℕ Trouble
lasting a f at e = and_then (found a f at e) (duration a.process at)
