-- Lines and short traces, computed from the definitions.
use Rattle.std.proofs.Common.{◌≡◌, refl, [], ◌∷◌, codes}
use Rattle.std.specs.Fmt.{digits}
use Rattle.pz_rules.specs.pz_syntax.Classes.{ModelTree}
use Rattle.pz_rules.specs.pz_value.declared.value.Value.TheVariants as value
use Rattle.pz_rules.specs.pz_state.declared.fault.FaultKind.TheVariants.{Overflow, DivideByZero}
use Rattle.pz_rules.specs.pz_copy.Parcels.{ParcelView}
use Rattle.pz_rules.specs.pz_offer.declared.trouble.Trouble.TheVariants.{Fault, Spent, High}
use Rattle.pz_rules.specs.declared.action.Kind.TheVariants.{Skip, Eval, Expire, Call}
use Rattle.pz_rules.specs.Runs.{acted, passed}
use Rattle.pz_trace.specs.declared.forms.Form.TheVariants.{Two, Three}
use Rattle.pz_trace.specs.declared.ending.Ending.TheVariants as ending
use Rattle.pz_trace.specs.Labels.{label}
use Rattle.pz_trace.specs.Lines.{action_line, end_line}
use Rattle.pz_trace.specs.TraceText.{trace_text}
use Rattle.pz_trace.proofs.Worked.{at, instance, process, system_of, told_by, by_first, does, hands, handing_on}

-- system instances p : P
abbrev alone : ModelTree
alone = record { decls = process (codes "P") [] ∷ system_of (instance (codes "p") (codes "P") ∷ []) [] ∷ [] }

-- it skips, waits and skips
waiting : trace_text (by_first alone) (acted 0 1 0 (does 0 Call 2 6) ∷ acted 0 1 0 (does 0 Skip 4 1) ∷ passed 0 3 ∷ acted 3 1 0 (does 0 Expire 5 1) ∷ acted 3 1 0 (does 0 Skip 6 1) ∷ []) 3 ending.End
    ≡ codes "poosl-trace 1\n0 1 0 p call 2:6\n0 1 0 p skip 4:1\n0 time 3\n3 1 0 p expire 5:1\n3 1 0 p skip 6:1\n3 end\n"
unfolding digits
waiting = refl

-- a call that ends in a loop without end, which is stopped
stopped : trace_text (by_first alone) (acted 0 1 0 (does 0 Call 2 6) ∷ acted 0 1 0 (does 0 Skip 3 15) ∷ acted 0 1 0 (does 0 Call 3 21) ∷ []) 0 ending.Stop
    ≡ codes "poosl-trace 1\n0 1 0 p call 2:6\n0 1 0 p skip 3:15\n0 1 0 p call 3:21\n0 stop\n"
unfolding digits
stopped = refl

-- runs that are stopped at once, by the limits of the other forms
second : trace_text (told_by Two alone) [] 0 ending.Stop ≡ codes "poosl-trace 2\n0 stop\n"
unfolding digits
second = refl

third : trace_text (told_by (Three 250) alone) [] 0 ending.Stop ≡ codes "poosl-trace 3 250\n0 stop\n"
unfolding digits
third = refl

-- a guard without a value
faulty : trace_text (by_first alone) (acted 0 1 0 (does 0 Call 2 6) ∷ []) 0 (ending.Trouble (Fault DivideByZero 0 (at 4 8)))
    ≡ codes "poosl-trace 1\n0 1 0 p call 2:6\n0 fault DivideByZero p 4:8\n"
unfolding digits
faulty = refl

-- an evaluation without end: the action has its line
spent : trace_text (by_first alone) (acted 0 1 0 (does 0 Call 6 6) ∷ acted 0 1 0 (does 0 Eval 7 15) ∷ []) 0 (ending.Trouble (Spent 0 (at 7 15)))
    ≡ codes "poosl-trace 1\n0 1 0 p call 6:6\n0 1 0 p eval 7:15\n0 spent p 7:15\n"
unfolding digits
spent = refl

overflows : end_line alone 0 (ending.Trouble (Fault Overflow 0 (at 7 40))) ≡ codes "0 fault Overflow p 7:40\n"
unfolding digits
overflows = refl

high : end_line alone 12 (ending.Trouble (High 0 (at 3 14))) ≡ codes "12 high p 3:14\n"
unfolding digits
high = refl

-- two activities of one process have one label
same_label : action_line alone 0 2 1 (does 0 Skip 5 7) ≡ codes "0 2 1 p skip 5:7\n"
unfolding digits
same_label = refl

-- an Array of a Char and of a String with bytes that do not print
abbrev array : ParcelView
array = record { values = value.Ref 0 ∷ []; objects = record { class = record { 0 = 0 }; items = value.Char 39 ∷ value.Str (34 ∷ 10 ∷ 255 ∷ []) ∷ value.Nil ∷ [] } ∷ [] }

array_label : label handing_on (hands 0 0 1 (codes "m") array) ≡ codes "#1 s ! m(#0){#0=Array['\\'',\"\\\"\\x0a\\xff\",nil]} -> f"
unfolding digits
array_label = refl
