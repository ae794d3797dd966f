-- Worked terms: their summaries, which the checker works out.
use Rattle.std.proofs.Common.{◌≡◌, ℕ, pos, negsuc, true, false, [], ◌∷◌, Some, None, refl}
use Rattle.pz_rules.specs.pz_syntax.declared.tokens.Pos.{Pos}
use Rattle.pz_rules.specs.pz_syntax.declared.tokens.Symbol.TheVariants.{Greater}
use Rattle.pz_rules.specs.pz_syntax.declared.names.Id.{Id}
use Rattle.pz_rules.specs.pz_syntax.declared.exprs.Literal.TheVariants as literal
use Rattle.pz_rules.specs.pz_syntax.Expressions.{variable, chain, none, more, left_out, written, link, no_links}
use Rattle.pz_rules.specs.pz_syntax.Expressions as expression
use Rattle.pz_rules.specs.pz_syntax.Statements.{skip, delay, send, receive}
use Rattle.pz_rules.specs.pz_value.declared.value.Value.{Value}
use Rattle.pz_rules.specs.pz_value.declared.value.Value.TheVariants as value
use Rattle.pz_rules.specs.pz_classes_code.declared.slot.Slot.TheVariants.{Shared}
use Rattle.pz_rules.specs.pz_state.declared.fault.FaultKind.TheVariants.{NotUnderstood, NegativeDelay}
use Rattle.pz_prims.specs.Rows.{answered}
use Rattle.pz_prims.specs.EveryValue.{every_value}
use Rattle.pz_prims.specs.Integers.{integers}
use Rattle.pz_prims.specs.Booleans.{booleans}
use Rattle.pz_prims.specs.Table.{outcome}
use Rattle.pz_rules.specs.pz_offer.declared.trouble.Trouble.TheVariants.{Fault}
use Rattle.pz_rules.specs.pz_offer.Summaries.{nothing, shifted}
use Rattle.pz_rules.specs.pz_eval_rules.devices.Computed.{sequence, arguments, operators, replied, selectors, going, turns, step, evaluated}
use Rattle.pz_rules.specs.Terms.{Code, Step, Term, done, leaf, wait, parallel, select, guarded, abort, idle, handling, no_terms, and}
use Rattle.pz_rules.specs.declared.limits.Edition.TheVariants.{One}
use Rattle.pz_rules.specs.Settings.{Context}
use Rattle.pz_tree_standing.specs.Summaries.{summary_of}
use Rattle.pz_tree_standing.specs.Asked.{asks}

abbrev at : ℕ → Pos
at column = record { line = 1; column = column }

-- process 3, with one variable of this value, at clock 100
abbrev seen_with : Value → Context
seen_with v = record {
  setting = record { model = record { decls = [] }; limits = record { units = 100; depth = 20; height = 1000; edition = One } };
  process = 3;
  class = 1;
  clock = 100;
  state = record { vars = v ∷ []; frames = []; objects = [] };
}

abbrev integer : ℕ → Value
integer n = value.Int (pos n)

-- the variable, and whether it is greater than 2
abbrev var : Code
var = variable (at 9) (Shared 0)

abbrev test : Code
test = chain (at 2) var (link Greater (at 4) (expression.literal (at 6) (literal.Int (pos 2))) no_links)

abbrev name : Id
name = record { name = []; pos = at 20 }

abbrev again : Step
again = skip (at 30)

-- an internal action, a delay that has begun, one that has not, and a receive
abbrev some_parts : Term
some_parts = parallel (and (leaf again) (and (wait 3 (at 7)) (and (leaf (delay (at 8) var)) (and (leaf (receive (at 5) 0 name None None left_out)) no_terms))))

-- by a clock of its own that shows 10: the least that is left counts, of a delay that has not begun too
least_is_due : summary_of (seen_with (integer 2)) 10 0 some_parts ≡ record { internal = 1; sends = 0; receives = 1; due = Some 12; trouble = None }
unfolding evaluated step sequence arguments operators replied selectors going turns outcome answered every_value integers booleans
least_is_due = refl

begun_is_due : summary_of (seen_with (integer 9)) 10 0 some_parts ≡ record { internal = 1; sends = 0; receives = 1; due = Some 13; trouble = None }
unfolding evaluated step sequence arguments operators replied selectors going turns outcome answered every_value integers booleans
begun_is_due = refl

-- nothing left counts as due, and can expire
over_is_due : summary_of (seen_with (integer 0)) 10 0 some_parts ≡ record { internal = 2; sends = 0; receives = 1; due = Some 10; trouble = None }
unfolding evaluated step sequence arguments operators replied selectors going turns outcome answered every_value integers booleans
over_is_due = refl

-- a delay that has a trouble is left out, and the trouble names the process
trouble_of_delay : summary_of (seen_with (value.Int (negsuc 0))) 10 0 some_parts
    ≡ record { internal = 1; sends = 0; receives = 1; due = Some 13; trouble = Some (Fault NegativeDelay 3 (at 8)) }
unfolding evaluated step sequence arguments operators replied selectors going turns outcome answered every_value integers booleans
trouble_of_delay = refl

-- by a clock that is ahead by 5
so_much_later : summary_of (seen_with (integer 2)) 15 0 some_parts ≡ shifted 5 (summary_of (seen_with (integer 2)) 10 0 some_parts)
unfolding evaluated step sequence arguments operators replied selectors going turns outcome answered every_value integers booleans
so_much_later = refl

-- behind a guard: all, nothing, or its trouble alone
abbrev behind : Term
behind = guarded test (at 1) some_parts

open_gate : summary_of (seen_with (integer 3)) 10 0 behind ≡ record { internal = 1; sends = 0; receives = 1; due = Some 13; trouble = None }
unfolding evaluated step sequence arguments operators replied selectors going turns outcome answered every_value integers booleans
open_gate = refl

shut_gate : summary_of (seen_with (integer 2)) 10 0 behind ≡ nothing
unfolding evaluated step sequence arguments operators replied selectors going turns outcome answered every_value integers booleans
shut_gate = refl

trouble_hides : summary_of (seen_with value.Nil) 10 0 behind ≡ record nothing { trouble = Some (Fault NotUnderstood 3 (at 4)) }
unfolding evaluated step sequence arguments operators replied selectors going turns outcome answered every_value integers booleans
trouble_hides = refl

-- the first trouble, by place
first_trouble : summary_of (seen_with value.Nil) 10 0 (parallel (and (leaf again) (and behind (and (guarded test (at 11) done) no_terms))))
    ≡ record { internal = 1; sends = 0; receives = 0; due = None; trouble = Some (Fault NotUnderstood 3 (at 4)) }
unfolding evaluated step sequence arguments operators replied selectors going turns outcome answered every_value integers booleans
first_trouble = refl

-- sends: one whose arguments have a trouble is left out
abbrev sending : Term
sending = leaf (send (at 12) 1 name (written (more test none)) left_out)

sends_count : summary_of (seen_with (integer 1)) 10 0 (select (and sending (and sending no_terms))) ≡ record { internal = 0; sends = 2; receives = 0; due = None; trouble = None }
unfolding evaluated step sequence arguments operators replied selectors going turns outcome answered every_value integers booleans
sends_count = refl

faulty_send : summary_of (seen_with value.Nil) 10 0 sending ≡ record nothing { trouble = Some (Fault NotUnderstood 3 (at 4)) }
unfolding evaluated step sequence arguments operators replied selectors going turns outcome answered every_value integers booleans
faulty_send = refl

-- an interrupt: both parts, and while the second is at work, that alone
both_parts : summary_of (seen_with value.Nil) 10 0 (idle (wait 6 (at 5)) (wait 7 (at 6)) again) ≡ record nothing { due = Some 16 }
both_parts = refl

second_part : summary_of (seen_with value.Nil) 10 0 (handling (wait 6 (at 5)) (wait 7 (at 6)) again) ≡ record nothing { due = Some 17 }
second_part = refl

-- of an abort both parts count, until the second acts
both_count : summary_of (seen_with value.Nil) 10 0 (abort (wait 6 (at 5)) (leaf again)) ≡ record nothing { internal = 1; due = Some 16 }
both_count = refl

-- what is asked: a guard, a delay that has not begun, a send; not what is interrupted, and no receive
guard_is_asked : asks behind ≡ true
guard_is_asked = refl

interrupted_is_not_asked : asks (handling behind (wait 7 (at 6)) again) ≡ false
interrupted_is_not_asked = refl

receive_is_not_asked : asks (leaf (receive (at 5) 0 name None (Some test) left_out)) ≡ false
receive_is_not_asked = refl
