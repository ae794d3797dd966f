-- A receive whose condition is false for both parcels that it could take: nothing can happen, and no
-- process is done.
--
--   process class S(v : Integer)
--   ports o
--   messages o!m(Integer)
--   init a()()
--   methods a()() o!m(v)
--   process class R
--   ports i
--   messages i?m(Integer)
--   variables x : Integer
--   init a()()
--   methods a()() i?m(x | x > 9)
--   system
--   instances a : S(v := 2) b : S(v := 3) r : R
--   channels {a.o, b.o, r.i}
use Rattle.std.proofs.Common.{true, false, List, [], ◌∷◌, Some, None, codes, refl}
use Rattle.pz_bind_rules.specs.pz_syntax.declared.tokens.Symbol.TheVariants.{Greater}
use Rattle.pz_bind_rules.specs.pz_syntax.declared.clusters.ChannelEnd.TheVariants.{Inner}
use Rattle.pz_bind_rules.specs.pz_syntax.Expressions.{variable, chain, none, left_out, written, no_links, link}
use Rattle.pz_bind_rules.specs.pz_syntax.Statements.{send, receive, call}
use Rattle.pz_bind_rules.specs.pz_syntax.Classes.{process_class, ModelTree}
use Rattle.pz_bind_rules.specs.pz_value.declared.value.Value.TheVariants.{Nil}
use Rattle.pz_bind_rules.specs.pz_classes_code.declared.slot.Slot.TheVariants.{Shared}
use Rattle.pz_rules.specs.declared.action.Kind.TheVariants.{Call}
use Rattle.pz_rules.specs.declared.moment.Moment.TheVariants.{Deadlock}
use Rattle.pz_rules.specs.Terms.{Step, leaf}
use Rattle.pz_rules.specs.Settings.{Setting}
use Rattle.pz_rules.proofs.worked.Models.{at, id, integer, expressions, steps, group_of, message_of, begins_by, method_of, instance_of, gives, channel_of, system_of, evaluations, of_model, at_clock, before, within, number, internal}
use Rattle.pz_rules.proofs.worked.Shown.{Shown, takes, Trace, acts, locks, traced}

abbrev model : ModelTree
model = record {
  decls =
      process_class (record {
        name = (id (codes "S") 1 15);
        parameters = (Some (group_of ((id (codes "v") 1 17) ∷ []) (id (codes "Integer") 1 21) ∷ []));
        parent = None;
        ports = (Some ((id (codes "o") 2 7) ∷ []));
        messages = (Some (message_of (id (codes "o") 3 10) true (id (codes "m") 3 12) (Some ((id (codes "Integer") 3 14) ∷ [])) ∷ []));
        variables = None;
        start = begins_by (id (codes "a") 4 6);
        methods = (Some (method_of (id (codes "a") 5 9) (steps ((send (at 5 15) (id (codes "o") 5 15) (id (codes "m") 5 17) (written (expressions ((variable (at 5 19) (id (codes "v") 5 19)) ∷ []))) left_out) ∷ [])) ∷ []));
      }) ∷
      process_class (record {
        name = (id (codes "R") 6 15);
        parameters = None;
        parent = None;
        ports = (Some ((id (codes "i") 7 7) ∷ []));
        messages = (Some (message_of (id (codes "i") 8 10) false (id (codes "m") 8 12) (Some ((id (codes "Integer") 8 14) ∷ [])) ∷ []));
        variables = (Some (group_of ((id (codes "x") 9 11) ∷ []) (id (codes "Integer") 9 15) ∷ []));
        start = begins_by (id (codes "a") 10 6);
        methods = (Some (method_of (id (codes "a") 11 9) (steps ((receive (at 11 15) (id (codes "i") 11 15) (id (codes "m") 11 17) (Some ((id (codes "x") 11 19) ∷ [])) (Some ((chain (at 11 23) (variable (at 11 23) (id (codes "x") 11 23)) (link Greater (at 11 25) (integer (at 11 27) 9) no_links)))) left_out) ∷ [])) ∷ []));
      }) ∷
      system_of (at 12 1) (instance_of (id (codes "a") 13 11) (id (codes "S") 13 15) (Some (gives (id (codes "v") 13 17) 2 (at 13 22) ∷ [])) ∷ instance_of (id (codes "b") 13 25) (id (codes "S") 13 29) (Some (gives (id (codes "v") 13 31) 3 (at 13 36) ∷ [])) ∷ instance_of (id (codes "r") 13 39) (id (codes "R") 13 43) None ∷ []) (Some (channel_of (at 14 10) (Inner (id (codes "a") 14 11) (id (codes "o") 14 13) ∷ Inner (id (codes "b") 14 16) (id (codes "o") 14 18) ∷ Inner (id (codes "r") 14 21) (id (codes "i") 14 23) ∷ []) ∷ [])) ∷ [];
}

abbrev setting : Setting
setting = of_model model

-- Its statements

abbrev begins : Step
begins = call (at 4 6) (id (codes "a") 4 6) none []

abbrev sends_it : Step
sends_it = send (at 5 15) 0 (id (codes "m") 5 17) (written (expressions ((variable (at 5 19) (Shared 0)) ∷ []))) left_out

abbrev listens : Step
listens = call (at 10 6) (id (codes "a") 10 6) none []

abbrev hears : Step
hears = receive (at 11 15) 0 (id (codes "m") 11 17) (Some ((Shared 0) ∷ [])) (Some ((chain (at 11 23) (variable (at 11 23) (Shared 0)) (link Greater (at 11 25) (integer (at 11 27) 9) no_links)))) left_out

-- Where it stands: senders with the numbers 2 and 3, and a receiver with one variable

abbrev events : List Shown
events =
    takes (internal 0 [] Call (at 4 6) ∷ internal 1 [] Call (at 4 6) ∷ internal 2 [] Call (at 10 6) ∷ []) 0 (at_clock 0 (within (leaf sends_it) (number 2 ∷ []) ∷ before (leaf begins) (number 3 ∷ []) ∷ before (leaf listens) (Nil ∷ []) ∷ [])) ∷
    takes (internal 1 [] Call (at 4 6) ∷ internal 2 [] Call (at 10 6) ∷ []) 0 (at_clock 0 (within (leaf sends_it) (number 2 ∷ []) ∷ within (leaf sends_it) (number 3 ∷ []) ∷ before (leaf listens) (Nil ∷ []) ∷ [])) ∷
    takes (internal 2 [] Call (at 10 6) ∷ []) 0 (at_clock 0 (within (leaf sends_it) (number 2 ∷ []) ∷ within (leaf sends_it) (number 3 ∷ []) ∷ within (leaf hears) (Nil ∷ []) ∷ [])) ∷
    []

pub trace : Trace setting events Deadlock
unfolding evaluations
trace = traced setting refl (before (leaf begins) (number 2 ∷ []) ∷ before (leaf begins) (number 3 ∷ []) ∷ before (leaf listens) (Nil ∷ []) ∷ []) events Deadlock refl (acts refl refl refl refl refl refl (acts refl refl refl refl refl refl (acts refl refl refl refl refl refl (locks refl refl refl refl refl))))
