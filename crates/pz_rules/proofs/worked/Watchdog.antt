-- An `abort`: its first part is gone, with its delay, once its second part acts.
--
--   process class S(d : Integer)
--   ports o
--   messages o!m
--   init a()()
--   methods a()() delay d; o!m
--   process class R
--   ports i
--   messages i?m
--   init a()()
--   methods a()() abort delay 10 with i?m
--   system
--   instances s : S(d := 4) r : R
--   channels {s.o, r.i}
use Rattle.std.proofs.Common.{true, false, List, [], ◌∷◌, Some, None, codes, refl}
use Rattle.pz_bind_rules.specs.pz_syntax.declared.clusters.ChannelEnd.TheVariants.{Inner}
use Rattle.pz_bind_rules.specs.pz_syntax.Expressions.{variable, none, left_out}
use Rattle.pz_bind_rules.specs.pz_syntax.Statements.{skip, delay, bracketed, send, receive, call, assignment, value}
use Rattle.pz_bind_rules.specs.pz_syntax.Statements as statement
use Rattle.pz_bind_rules.specs.pz_syntax.Classes.{process_class, ModelTree}
use Rattle.pz_bind_rules.specs.pz_value.declared.value.Value.{Value}
use Rattle.pz_bind_rules.specs.pz_classes_code.declared.slot.Slot.TheVariants.{Shared}
use Rattle.pz_rules.specs.declared.action.Kind.TheVariants.{Expire, Call}
use Rattle.pz_rules.specs.declared.action.Action.{Action}
use Rattle.pz_rules.specs.declared.action.Action.TheVariants.{Comm}
use Rattle.pz_rules.specs.declared.moment.Moment.TheVariants.{Finished}
use Rattle.pz_rules.specs.Terms.{Step, Term, done, leaf, wait, sequence, abort}
use Rattle.pz_rules.specs.Settings.{Setting, Process}
use Rattle.pz_rules.proofs.worked.Models.{at, id, integer, steps, group_of, message_of, begins_by, method_of, instance_of, gives, channel_of, system_of, evaluations, of_model, at_clock, before, within, number, end, nothing, internal}
use Rattle.pz_rules.proofs.worked.Shown.{Shown, takes, waits, Trace, acts, passes, ends, traced}

abbrev model : ModelTree
model = record {
  decls =
      process_class (record {
        name = (id (codes "S") 1 15);
        parameters = (Some (group_of ((id (codes "d") 1 17) ∷ []) (id (codes "Integer") 1 21) ∷ []));
        parent = None;
        ports = (Some ((id (codes "o") 2 7) ∷ []));
        messages = (Some (message_of (id (codes "o") 3 10) true (id (codes "m") 3 12) None ∷ []));
        variables = None;
        start = begins_by (id (codes "a") 4 6);
        methods = (Some (method_of (id (codes "a") 5 9) (steps ((delay (at 5 15) (variable (at 5 21) (id (codes "d") 5 21))) ∷ (send (at 5 24) (id (codes "o") 5 24) (id (codes "m") 5 26) left_out left_out) ∷ [])) ∷ []));
      }) ∷
      process_class (record {
        name = (id (codes "R") 6 15);
        parameters = None;
        parent = None;
        ports = (Some ((id (codes "i") 7 7) ∷ []));
        messages = (Some (message_of (id (codes "i") 8 10) false (id (codes "m") 8 12) None ∷ []));
        variables = None;
        start = begins_by (id (codes "a") 9 6);
        methods = (Some (method_of (id (codes "a") 10 9) (steps ((statement.abort (at 10 15) (steps ((delay (at 10 21) (integer (at 10 27) 10)) ∷ [])) (receive (at 10 35) (id (codes "i") 10 35) (id (codes "m") 10 37) None None left_out)) ∷ [])) ∷ []));
      }) ∷
      system_of (at 11 1) (instance_of (id (codes "s") 12 11) (id (codes "S") 12 15) (Some (gives (id (codes "d") 12 17) 4 (at 12 22) ∷ [])) ∷ instance_of (id (codes "r") 12 25) (id (codes "R") 12 29) None ∷ []) (Some (channel_of (at 13 10) (Inner (id (codes "s") 13 11) (id (codes "o") 13 13) ∷ Inner (id (codes "r") 13 16) (id (codes "i") 13 18) ∷ []) ∷ [])) ∷ [];
}

abbrev setting : Setting
setting = of_model model

-- Its statements

abbrev begins : Step
begins = call (at 4 6) (id (codes "a") 4 6) none []

abbrev delays : Step
delays = delay (at 5 15) (variable (at 5 21) (Shared 0))

abbrev sends_it : Step
sends_it = send (at 5 24) 0 (id (codes "m") 5 26) left_out left_out

abbrev listens : Step
listens = call (at 9 6) (id (codes "a") 9 6) none []

abbrev works : Step
works = delay (at 10 21) (integer (at 10 27) 10)

abbrev hears : Step
hears = receive (at 10 35) 0 (id (codes "m") 10 37) None None left_out

-- Where it stands

abbrev sender : Term → Process
sender t = within t (number 4 ∷ [])

abbrev receiver : Term → Process
receiver t = within t []

abbrev ended : List Value → Process
ended vars = before done vars

abbrev message : Action
message = Comm 0 (end 0 (0 ∷ [])) (end 1 (0 ∷ 1 ∷ [])) (codes "m") nothing

abbrev events : List Shown
events =
    takes (internal 0 [] Call (at 4 6) ∷ internal 1 [] Call (at 9 6) ∷ []) 0 (at_clock 0 (sender (sequence (leaf delays) (steps (sends_it ∷ []))) ∷ before (leaf listens) [] ∷ [])) ∷
    takes (internal 1 [] Call (at 9 6) ∷ []) 0 (at_clock 0 (sender (sequence (leaf delays) (steps (sends_it ∷ []))) ∷ receiver (abort (leaf works) (leaf hears)) ∷ [])) ∷
    waits 4 (at_clock 4 (sender (sequence (wait 0 (at 5 15)) (steps (sends_it ∷ []))) ∷ receiver (abort (wait 6 (at 10 21)) (leaf hears)) ∷ [])) ∷
    takes (internal 0 (0 ∷ 0 ∷ []) Expire (at 5 15) ∷ []) 0 (at_clock 4 (sender (leaf sends_it) ∷ receiver (abort (wait 6 (at 10 21)) (leaf hears)) ∷ [])) ∷
    takes (message ∷ []) 0 (at_clock 4 (ended (number 4 ∷ []) ∷ ended [] ∷ [])) ∷
    []

pub trace : Trace setting events Finished
unfolding evaluations
trace = traced setting refl (before (leaf begins) (number 4 ∷ []) ∷ before (leaf listens) [] ∷ []) events Finished refl (acts refl refl refl refl refl refl (acts refl refl refl refl refl refl (passes refl refl refl refl refl (acts refl refl refl refl refl refl (acts refl refl refl refl refl refl (ends refl refl refl refl refl))))))
