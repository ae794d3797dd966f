-- A process that sends and receives side by side on one wire: it does not communicate with itself.
--
--   process class P
--   ports o, i
--   messages o!m, i?m
--   init a()()
--   methods a()() par o!m and i?m rap
--   system
--   instances p : P
--   channels {p.o, p.i}
use Rattle.std.proofs.Common.{true, false, List, [], ◌∷◌, Some, None, codes, refl}
use Rattle.pz_bind_rules.specs.pz_syntax.declared.clusters.ChannelEnd.TheVariants.{Inner}
use Rattle.pz_bind_rules.specs.pz_syntax.Expressions.{none, left_out}
use Rattle.pz_bind_rules.specs.pz_syntax.Statements.{skip, delay, bracketed, send, receive, call, assignment, value}
use Rattle.pz_bind_rules.specs.pz_syntax.Statements as statement
use Rattle.pz_bind_rules.specs.pz_syntax.Classes.{process_class, ModelTree}
use Rattle.pz_rules.specs.declared.action.Kind.TheVariants.{Call}
use Rattle.pz_rules.specs.declared.moment.Moment.TheVariants.{Deadlock}
use Rattle.pz_rules.specs.Terms.{Step, leaf, parallel}
use Rattle.pz_rules.specs.Settings.{Setting}
use Rattle.pz_rules.proofs.worked.Models.{at, id, steps, branches, message_of, begins_by, method_of, instance_of, channel_of, system_of, evaluations, of_model, at_clock, before, within, terms, internal}
use Rattle.pz_rules.proofs.worked.Shown.{Shown, takes, Trace, acts, locks, traced}

abbrev model : ModelTree
model = record {
  decls =
      process_class (record {
        name = (id (codes "P") 1 15);
        parameters = None;
        parent = None;
        ports = (Some ((id (codes "o") 2 7) ∷ (id (codes "i") 2 10) ∷ []));
        messages = (Some (message_of (id (codes "o") 3 10) true (id (codes "m") 3 12) None ∷ message_of (id (codes "i") 3 15) false (id (codes "m") 3 17) None ∷ []));
        variables = None;
        start = begins_by (id (codes "a") 4 6);
        methods = (Some (method_of (id (codes "a") 5 9) (steps ((statement.parallel (at 5 15) (branches ((steps ((send (at 5 19) (id (codes "o") 5 19) (id (codes "m") 5 21) left_out left_out) ∷ [])) ∷ (steps ((receive (at 5 27) (id (codes "i") 5 27) (id (codes "m") 5 29) None None left_out) ∷ [])) ∷ []))) ∷ [])) ∷ []));
      }) ∷
      system_of (at 6 1) (instance_of (id (codes "p") 7 11) (id (codes "P") 7 15) None ∷ []) (Some (channel_of (at 8 10) (Inner (id (codes "p") 8 11) (id (codes "o") 8 13) ∷ Inner (id (codes "p") 8 16) (id (codes "i") 8 18) ∷ []) ∷ [])) ∷ [];
}

abbrev setting : Setting
setting = of_model model

-- Its statements

abbrev begins : Step
begins = call (at 4 6) (id (codes "a") 4 6) none []

abbrev sends_it : Step
sends_it = send (at 5 19) 0 (id (codes "m") 5 21) left_out left_out

abbrev hears : Step
hears = receive (at 5 27) 1 (id (codes "m") 5 29) None None left_out

-- Where it stands: before its first step, and with both parts open

abbrev events : List Shown
events =
    takes (internal 0 [] Call (at 4 6) ∷ []) 0 (at_clock 0 (within (parallel (terms (leaf sends_it ∷ leaf hears ∷ []))) [] ∷ [])) ∷
    []

pub trace : Trace setting events Deadlock
unfolding evaluations
trace = traced setting refl (before (leaf begins) [] ∷ []) events Deadlock refl (acts refl refl refl refl refl refl (locks refl refl refl refl refl))
