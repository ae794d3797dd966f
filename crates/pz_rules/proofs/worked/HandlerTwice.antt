-- An `interrupt` whose handler is done: it stands open afresh, and takes a second message from its
-- beginning on.
--
--   process class S(d : Integer)
--   ports o
--   messages o!m
--   init a()()
--   methods a()() delay 4; o!m; delay 8; o!m
--   process class R
--   ports i
--   messages i?m
--   init a()()
--   methods a()() interrupt delay 10 with (i?m; delay 7)
--   system
--   instances s : S(d := 4) r : R
--   channels {s.o, r.i}
use Rattle.std.proofs.Common.{ℕ, true, false, List, [], ◌∷◌, Some, None, codes, refl}
use Rattle.pz_bind_rules.specs.pz_syntax.declared.clusters.ChannelEnd.TheVariants.{Inner}
use Rattle.pz_bind_rules.specs.pz_syntax.Expressions.{none, left_out}
use Rattle.pz_bind_rules.specs.pz_syntax.Statements.{skip, delay, bracketed, send, receive, call, assignment, value}
use Rattle.pz_bind_rules.specs.pz_syntax.Statements as statement
use Rattle.pz_bind_rules.specs.pz_syntax.Classes.{process_class, ModelTree}
use Rattle.pz_bind_rules.specs.pz_value.declared.value.Value.{Value}
use Rattle.pz_rules.specs.declared.action.Kind.TheVariants.{Expire, Call}
use Rattle.pz_rules.specs.declared.action.Action.{Action}
use Rattle.pz_rules.specs.declared.action.Action.TheVariants.{Comm}
use Rattle.pz_rules.specs.declared.moment.Moment.TheVariants.{Finished}
use Rattle.pz_rules.specs.Terms.{Step, Term, done, leaf, wait, sequence, idle, handling}
use Rattle.pz_rules.specs.Settings.{Setting, Process}
use Rattle.pz_rules.proofs.worked.Models.{at, id, integer, steps, group_of, message_of, begins_by, method_of, instance_of, gives, channel_of, system_of, evaluations, of_model, at_clock, before, within, number, end, nothing, internal}
use Rattle.pz_rules.proofs.worked.Shown.{Shown, takes, waits, Trace, Computed, acts, passes, ends, traced}

abbrev model : ModelTree
model = record {
  decls =
      process_class (record {
        name = (id (codes "S") 1 15);
        parameters = (Some (group_of ((id (codes "d") 1 17) ∷ []) (id (codes "Integer") 1 21) ∷ []));
        parent = None;
        ports = (Some ((id (codes "o") 2 7) ∷ []));
        messages = (Some (message_of (id (codes "o") 3 10) true (id (codes "m") 3 12) None ∷ []));
        variables = None;
        start = begins_by (id (codes "a") 4 6);
        methods = (Some (method_of (id (codes "a") 5 9) (steps ((delay (at 5 15) (integer (at 5 21) 4)) ∷ (send (at 5 24) (id (codes "o") 5 24) (id (codes "m") 5 26) left_out left_out) ∷ (delay (at 5 29) (integer (at 5 35) 8)) ∷ (send (at 5 38) (id (codes "o") 5 38) (id (codes "m") 5 40) left_out left_out) ∷ [])) ∷ []));
      }) ∷
      process_class (record {
        name = (id (codes "R") 6 15);
        parameters = None;
        parent = None;
        ports = (Some ((id (codes "i") 7 7) ∷ []));
        messages = (Some (message_of (id (codes "i") 8 10) false (id (codes "m") 8 12) None ∷ []));
        variables = None;
        start = begins_by (id (codes "a") 9 6);
        methods = (Some (method_of (id (codes "a") 10 9) (steps ((statement.interrupt (at 10 15) (steps ((delay (at 10 25) (integer (at 10 31) 10)) ∷ [])) (bracketed (at 10 39) (steps ((receive (at 10 40) (id (codes "i") 10 40) (id (codes "m") 10 42) None None left_out) ∷ (delay (at 10 45) (integer (at 10 51) 7)) ∷ [])))) ∷ [])) ∷ []));
      }) ∷
      system_of (at 11 1) (instance_of (id (codes "s") 12 11) (id (codes "S") 12 15) (Some (gives (id (codes "d") 12 17) 4 (at 12 22) ∷ [])) ∷ instance_of (id (codes "r") 12 25) (id (codes "R") 12 29) None ∷ []) (Some (channel_of (at 13 10) (Inner (id (codes "s") 13 11) (id (codes "o") 13 13) ∷ Inner (id (codes "r") 13 16) (id (codes "i") 13 18) ∷ []) ∷ [])) ∷ [];
}

abbrev setting : Setting
setting = of_model model

-- Its statements

abbrev begins : Step
begins = call (at 4 6) (id (codes "a") 4 6) none []

abbrev delays : Step
delays = delay (at 5 15) (integer (at 5 21) 4)

abbrev sends_it : Step
sends_it = send (at 5 24) 0 (id (codes "m") 5 26) left_out left_out

abbrev delays_again : Step
delays_again = delay (at 5 29) (integer (at 5 35) 8)

abbrev sends_again : Step
sends_again = send (at 5 38) 0 (id (codes "m") 5 40) left_out left_out

abbrev listens : Step
listens = call (at 9 6) (id (codes "a") 9 6) none []

abbrev works : Step
works = delay (at 10 25) (integer (at 10 31) 10)

abbrev handler : Step
handler = bracketed (at 10 39) (steps ((receive (at 10 40) 0 (id (codes "m") 10 42) None None left_out) ∷ (delay (at 10 45) (integer (at 10 51) 7)) ∷ []))

abbrev hears : Step
hears = receive (at 10 40) 0 (id (codes "m") 10 42) None None left_out

abbrev handles : Step
handles = delay (at 10 45) (integer (at 10 51) 7)

-- Where it stands

abbrev sender : Term → Process
sender t = within t (number 4 ∷ [])

abbrev ended : List Value → Process
ended vars = before done vars

-- the receiver while its work goes on, with a handler that has not begun
abbrev at_work : Term → Process
at_work t = within (idle t (sequence (leaf hears) (steps (handles ∷ []))) handler) []

-- and while the work stands still
abbrev interrupted : Term → Term → Process
interrupted t u = within (handling t u handler) []

abbrev message : List ℕ → Action
message place = Comm 0 (end 0 place) (end 1 (0 ∷ 1 ∷ 0 ∷ [])) (codes "m") nothing

abbrev later : List Shown
later =
    waits 1 (at_clock 12 (sender (sequence (wait 0 (at 5 29)) (steps (sends_again ∷ []))) ∷ at_work (wait 5 (at 10 25)) ∷ [])) ∷
    takes (internal 0 (0 ∷ 0 ∷ []) Expire (at 5 29) ∷ []) 0 (at_clock 12 (sender (leaf sends_again) ∷ at_work (wait 5 (at 10 25)) ∷ [])) ∷
    takes (message (0 ∷ []) ∷ []) 0 (at_clock 12 (ended (number 4 ∷ []) ∷ interrupted (wait 5 (at 10 25)) (leaf handles) ∷ [])) ∷
    waits 7 (at_clock 19 (ended (number 4 ∷ []) ∷ interrupted (wait 5 (at 10 25)) (wait 0 (at 10 45)) ∷ [])) ∷
    takes (internal 1 (0 ∷ 1 ∷ []) Expire (at 10 45) ∷ []) 0 (at_clock 19 (ended (number 4 ∷ []) ∷ at_work (wait 5 (at 10 25)) ∷ [])) ∷
    waits 5 (at_clock 24 (ended (number 4 ∷ []) ∷ at_work (wait 0 (at 10 25)) ∷ [])) ∷
    takes (internal 1 (0 ∷ 0 ∷ []) Expire (at 10 25) ∷ []) 0 (at_clock 24 (ended (number 4 ∷ []) ∷ ended [] ∷ [])) ∷
    []

works_out_later : Computed setting (at_clock 11 (sender (sequence (wait 1 (at 5 29)) (steps (sends_again ∷ []))) ∷ at_work (wait 6 (at 10 25)) ∷ [])) later Finished
unfolding evaluations
works_out_later = passes refl refl refl refl refl (acts refl refl refl refl refl refl (acts refl refl refl refl refl refl (passes refl refl refl refl refl (acts refl refl refl refl refl refl (passes refl refl refl refl refl (acts refl refl refl refl refl refl (ends refl refl refl refl refl)))))))

abbrev events : List Shown
events =
    takes (internal 0 [] Call (at 4 6) ∷ internal 1 [] Call (at 9 6) ∷ []) 0 (at_clock 0 (sender (sequence (leaf delays) (steps (sends_it ∷ delays_again ∷ sends_again ∷ []))) ∷ before (leaf listens) [] ∷ [])) ∷
    takes (internal 1 [] Call (at 9 6) ∷ []) 0 (at_clock 0 (sender (sequence (leaf delays) (steps (sends_it ∷ delays_again ∷ sends_again ∷ []))) ∷ at_work (leaf works) ∷ [])) ∷
    waits 4 (at_clock 4 (sender (sequence (wait 0 (at 5 15)) (steps (sends_it ∷ delays_again ∷ sends_again ∷ []))) ∷ at_work (wait 6 (at 10 25)) ∷ [])) ∷
    takes (internal 0 (0 ∷ 0 ∷ []) Expire (at 5 15) ∷ []) 0 (at_clock 4 (sender (sequence (leaf sends_it) (steps (delays_again ∷ sends_again ∷ []))) ∷ at_work (wait 6 (at 10 25)) ∷ [])) ∷
    takes (message (0 ∷ 0 ∷ []) ∷ []) 0 (at_clock 4 (sender (sequence (leaf delays_again) (steps (sends_again ∷ []))) ∷ interrupted (wait 6 (at 10 25)) (leaf handles) ∷ [])) ∷
    waits 7 (at_clock 11 (sender (sequence (wait 1 (at 5 29)) (steps (sends_again ∷ []))) ∷ interrupted (wait 6 (at 10 25)) (wait 0 (at 10 45)) ∷ [])) ∷
    takes (internal 1 (0 ∷ 1 ∷ []) Expire (at 10 45) ∷ []) 0 (at_clock 11 (sender (sequence (wait 1 (at 5 29)) (steps (sends_again ∷ []))) ∷ at_work (wait 6 (at 10 25)) ∷ [])) ∷
    later

pub trace : Trace setting events Finished
unfolding evaluations
trace = traced setting refl (before (leaf begins) (number 4 ∷ []) ∷ before (leaf listens) [] ∷ []) events Finished refl (acts refl refl refl refl refl refl (acts refl refl refl refl refl refl (passes refl refl refl refl refl (acts refl refl refl refl refl refl (acts refl refl refl refl refl refl (passes refl refl refl refl refl (acts refl refl refl refl refl refl (works_out_later))))))))
