-- Objects in messages: each receiver gets objects of its own, once each and as they were when they were
-- sent, with the references among them.
--
--   data class N
--   variables o : N, v : Integer
--   methods set(p : N, w : Integer) : N
--   o := p; v := w; return self
--   process class S
--   ports c
--   messages c!m(N, N)
--   variables a : N, b : N
--   init r()()
--   methods r()()
--   a := new(N); b := new(N);
--   a set(b, 1); b set(a, 2);
--   c!m(a, b){a set(nil, 9)}
--   process class F
--   ports c, d
--   messages c?m(N, N), d!m(N, N)
--   variables x : N, y : N
--   init r()()
--   methods r()() c?m(x, y); d!m(x, x)
--   process class E
--   ports d
--   messages d?m(N, N)
--   variables x : N, y : N
--   init r()()
--   methods r()() d?m(x, y)
--   system instances s : S f : F e : E
--   channels {s.c, f.c} {f.d, e.d}
use Rattle.std.proofs.Common.{ℕ, true, false, List, [], ◌∷◌, Some, None, codes, refl}
use Rattle.pz_bind_rules.specs.pz_syntax.declared.clusters.ChannelEnd.TheVariants.{Inner}
use Rattle.pz_bind_rules.specs.pz_syntax.declared.exprs.Literal.TheVariants as literal
use Rattle.pz_bind_rules.specs.pz_syntax.Expressions.{variable, me, clock, creation, chain, sends, assign, returned, none, left_out, written, no_links, link, no_sendings, sending}
use Rattle.pz_bind_rules.specs.pz_syntax.Expressions as expression
use Rattle.pz_bind_rules.specs.pz_syntax.Statements.{send, receive, call, assignment, value}
use Rattle.pz_bind_rules.specs.pz_syntax.Classes.{data_class, process_class, ModelTree}
use Rattle.pz_bind_rules.specs.pz_value.declared.value.Value.{Value}
use Rattle.pz_bind_rules.specs.pz_value.declared.value.Value.TheVariants.{Nil, Ref}
use Rattle.pz_bind_rules.specs.pz_classes_code.declared.slot.Slot.TheVariants.{Shared}
use Rattle.pz_offer.specs.pz_state.Objects.{ObjectView}
use Rattle.pz_rules.specs.declared.action.Kind.TheVariants.{Eval, Call}
use Rattle.pz_rules.specs.declared.action.Action.{Action}
use Rattle.pz_rules.specs.declared.action.Action.TheVariants.{Comm}
use Rattle.pz_rules.specs.declared.moment.Moment.TheVariants.{Finished}
use Rattle.pz_rules.specs.Terms.{Step, Term, done, leaf, sequence, frame}
use Rattle.pz_rules.specs.Settings.{Setting, Process}
use Rattle.pz_rules.proofs.worked.Models.{at, id, integer, expressions, steps, group_of, message_of, begins_by, method_of, instance_of, channel_of, system_of, class, evaluations, of_model, at_clock, before, within, number, object_of, end, internal}
use Rattle.pz_rules.proofs.worked.Shown.{Shown, takes, Trace, Computed, acts, ends, traced}

abbrev model : ModelTree
model = record {
  decls =
      data_class (record {
        name = (id (codes "N") 1 12);
        parent = None;
        variables = (Some (group_of ((id (codes "o") 2 11) ∷ []) (id (codes "N") 2 15) ∷ group_of ((id (codes "v") 2 18) ∷ []) (id (codes "Integer") 2 22) ∷ []));
        methods = (Some ((record { name = (id (codes "set") 3 9); inputs = (Some (group_of ((id (codes "p") 3 13) ∷ []) (id (codes "N") 3 17) ∷ group_of ((id (codes "w") 3 20) ∷ []) (id (codes "Integer") 3 24) ∷ [])); result = (id (codes "N") 3 35); locals = None; body = (expressions ((assign (at 4 1) (id (codes "o") 4 1) (variable (at 4 6) (id (codes "p") 4 6))) ∷ (assign (at 4 9) (id (codes "v") 4 9) (variable (at 4 14) (id (codes "w") 4 14))) ∷ (returned (at 4 17) (me (at 4 24))) ∷ [])) }) ∷ []));
      }) ∷
      process_class (record {
        name = (id (codes "S") 5 15);
        parameters = None;
        parent = None;
        ports = (Some ((id (codes "c") 6 7) ∷ []));
        messages = (Some (message_of (id (codes "c") 7 10) true (id (codes "m") 7 12) (Some ((id (codes "N") 7 14) ∷ (id (codes "N") 7 17) ∷ [])) ∷ []));
        variables = (Some (group_of ((id (codes "a") 8 11) ∷ []) (id (codes "N") 8 15) ∷ group_of ((id (codes "b") 8 18) ∷ []) (id (codes "N") 8 22) ∷ []));
        start = begins_by (id (codes "r") 9 6);
        methods = (Some (method_of (id (codes "r") 10 9) (steps ((assignment (at 11 1) (id (codes "a") 11 1) (creation (at 11 6) (id (codes "N") 11 10))) ∷ (assignment (at 11 14) (id (codes "b") 11 14) (creation (at 11 19) (id (codes "N") 11 23))) ∷ (value (at 12 1) (sends (at 12 1) (variable (at 12 1) (id (codes "a") 12 1)) (sending (id (codes "set") 12 3) (written (expressions ((variable (at 12 7) (id (codes "b") 12 7)) ∷ (integer (at 12 10) 1) ∷ []))) no_sendings))) ∷ (value (at 12 14) (sends (at 12 14) (variable (at 12 14) (id (codes "b") 12 14)) (sending (id (codes "set") 12 16) (written (expressions ((variable (at 12 20) (id (codes "a") 12 20)) ∷ (integer (at 12 23) 2) ∷ []))) no_sendings))) ∷ (send (at 13 1) (id (codes "c") 13 1) (id (codes "m") 13 3) (written (expressions ((variable (at 13 5) (id (codes "a") 13 5)) ∷ (variable (at 13 8) (id (codes "b") 13 8)) ∷ []))) (written (expressions ((sends (at 13 11) (variable (at 13 11) (id (codes "a") 13 11)) (sending (id (codes "set") 13 13) (written (expressions ((expression.literal (at 13 17) literal.Nil) ∷ (integer (at 13 22) 9) ∷ []))) no_sendings)) ∷ [])))) ∷ [])) ∷ []));
      }) ∷
      process_class (record {
        name = (id (codes "F") 14 15);
        parameters = None;
        parent = None;
        ports = (Some ((id (codes "c") 15 7) ∷ (id (codes "d") 15 10) ∷ []));
        messages = (Some (message_of (id (codes "c") 16 10) false (id (codes "m") 16 12) (Some ((id (codes "N") 16 14) ∷ (id (codes "N") 16 17) ∷ [])) ∷ message_of (id (codes "d") 16 21) true (id (codes "m") 16 23) (Some ((id (codes "N") 16 25) ∷ (id (codes "N") 16 28) ∷ [])) ∷ []));
        variables = (Some (group_of ((id (codes "x") 17 11) ∷ []) (id (codes "N") 17 15) ∷ group_of ((id (codes "y") 17 18) ∷ []) (id (codes "N") 17 22) ∷ []));
        start = begins_by (id (codes "r") 18 6);
        methods = (Some (method_of (id (codes "r") 19 9) (steps ((receive (at 19 15) (id (codes "c") 19 15) (id (codes "m") 19 17) (Some ((id (codes "x") 19 19) ∷ (id (codes "y") 19 22) ∷ [])) None left_out) ∷ (send (at 19 26) (id (codes "d") 19 26) (id (codes "m") 19 28) (written (expressions ((variable (at 19 30) (id (codes "x") 19 30)) ∷ (variable (at 19 33) (id (codes "x") 19 33)) ∷ []))) left_out) ∷ [])) ∷ []));
      }) ∷
      process_class (record {
        name = (id (codes "E") 20 15);
        parameters = None;
        parent = None;
        ports = (Some ((id (codes "d") 21 7) ∷ []));
        messages = (Some (message_of (id (codes "d") 22 10) false (id (codes "m") 22 12) (Some ((id (codes "N") 22 14) ∷ (id (codes "N") 22 17) ∷ [])) ∷ []));
        variables = (Some (group_of ((id (codes "x") 23 11) ∷ []) (id (codes "N") 23 15) ∷ group_of ((id (codes "y") 23 18) ∷ []) (id (codes "N") 23 22) ∷ []));
        start = begins_by (id (codes "r") 24 6);
        methods = (Some (method_of (id (codes "r") 25 9) (steps ((receive (at 25 15) (id (codes "d") 25 15) (id (codes "m") 25 17) (Some ((id (codes "x") 25 19) ∷ (id (codes "y") 25 22) ∷ [])) None left_out) ∷ [])) ∷ []));
      }) ∷
      system_of (at 26 1) (instance_of (id (codes "s") 26 18) (id (codes "S") 26 22) None ∷ instance_of (id (codes "f") 26 24) (id (codes "F") 26 28) None ∷ instance_of (id (codes "e") 26 30) (id (codes "E") 26 34) None ∷ []) (Some (channel_of (at 27 10) (Inner (id (codes "s") 27 11) (id (codes "c") 27 13) ∷ Inner (id (codes "f") 27 16) (id (codes "c") 27 18) ∷ []) ∷ channel_of (at 27 21) (Inner (id (codes "f") 27 22) (id (codes "d") 27 24) ∷ Inner (id (codes "e") 27 27) (id (codes "d") 27 29) ∷ []) ∷ [])) ∷ [];
}

abbrev setting : Setting
setting = of_model model

-- Its statements

abbrev begins : Step
begins = call (at 9 6) (id (codes "r") 9 6) none []

abbrev makes_a : Step
makes_a = value (at 11 1) (assign (at 11 1) (Shared 0) (creation (at 11 6) (class 1)))

abbrev makes_b : Step
makes_b = value (at 11 14) (assign (at 11 14) (Shared 1) (creation (at 11 19) (class 1)))

abbrev sets_a : Step
sets_a = value (at 12 1) (sends (at 12 1) (variable (at 12 1) (Shared 0)) (sending (id (codes "set") 12 3) (written (expressions ((variable (at 12 7) (Shared 1)) ∷ (integer (at 12 10) 1) ∷ []))) no_sendings))

abbrev sets_b : Step
sets_b = value (at 12 14) (sends (at 12 14) (variable (at 12 14) (Shared 1)) (sending (id (codes "set") 12 16) (written (expressions ((variable (at 12 20) (Shared 0)) ∷ (integer (at 12 23) 2) ∷ []))) no_sendings))

abbrev sends_both : Step
sends_both = send (at 13 1) 0 (id (codes "m") 13 3) (written (expressions ((variable (at 13 5) (Shared 0)) ∷ (variable (at 13 8) (Shared 1)) ∷ []))) (written (expressions ((sends (at 13 11) (variable (at 13 11) (Shared 0)) (sending (id (codes "set") 13 13) (written (expressions ((expression.literal (at 13 17) literal.Nil) ∷ (integer (at 13 22) 9) ∷ []))) no_sendings)) ∷ [])))

abbrev forwards : Step
forwards = call (at 18 6) (id (codes "r") 18 6) none []

abbrev hears : Step
hears = receive (at 19 15) 0 (id (codes "m") 19 17) (Some ((Shared 0) ∷ (Shared 1) ∷ [])) None left_out

abbrev sends_one : Step
sends_one = send (at 19 26) 1 (id (codes "m") 19 28) (written (expressions ((variable (at 19 30) (Shared 0)) ∷ (variable (at 19 33) (Shared 0)) ∷ []))) left_out

abbrev ends_it : Step
ends_it = call (at 24 6) (id (codes "r") 24 6) none []

abbrev hears_last : Step
hears_last = receive (at 25 15) 0 (id (codes "m") 25 17) (Some ((Shared 0) ∷ (Shared 1) ∷ [])) None left_out

-- Where it stands

abbrev with_objects : Term → List Value → List ObjectView → Process
with_objects t vars objects = record { term = frame 1 0 [] t; state = record { vars = vars; frames = (1, []) ∷ []; objects = objects } }

abbrev ended : List Value → List ObjectView → Process
ended vars objects = record { term = done; state = record { vars = vars; frames = []; objects = objects } }

abbrev nils : List Value
nils = Nil ∷ Nil ∷ []

-- two references
abbrev refs : ℕ → ℕ → List Value
refs r q = Ref r ∷ Ref q ∷ []

-- an object with what its fields have
abbrev n_of : Value → Value → ObjectView
n_of o v = object_of 1 (o ∷ v ∷ [])

-- each has the other
abbrev cycle : List ObjectView
cycle = n_of (Ref 1) (number 1) ∷ n_of (Ref 0) (number 2) ∷ []

abbrev message_one : Action
message_one = Comm 0 (end 0 (0 ∷ [])) (end 1 (0 ∷ 0 ∷ [])) (codes "m") (record { values = refs 0 1; objects = cycle })

abbrev message_two : Action
message_two = Comm 1 (end 1 (0 ∷ [])) (end 2 (0 ∷ [])) (codes "m") (record { values = refs 0 0; objects = cycle })

abbrev last : List Shown
last =
    takes (message_one ∷ []) 0 (at_clock 0 (ended (refs 0 1) (n_of Nil (number 9) ∷ n_of (Ref 0) (number 2) ∷ []) ∷ with_objects (leaf sends_one) (refs 0 1) cycle ∷ within (leaf hears_last) nils ∷ [])) ∷
    takes (message_two ∷ []) 0 (at_clock 0 (ended (refs 0 1) (n_of Nil (number 9) ∷ n_of (Ref 0) (number 2) ∷ []) ∷ ended (refs 0 1) cycle ∷ ended (refs 0 0) cycle ∷ [])) ∷
    []

works_out_last : Computed setting (at_clock 0 (with_objects (leaf sends_both) (refs 0 1) cycle ∷ within (sequence (leaf hears) (steps (sends_one ∷ []))) nils ∷ within (leaf hears_last) nils ∷ [])) last Finished
unfolding evaluations
works_out_last = acts refl refl refl refl refl refl (acts refl refl refl refl refl refl (ends refl refl refl refl refl))

abbrev later : List Shown
later =
    takes (internal 1 [] Call (at 18 6) ∷ internal 2 [] Call (at 24 6) ∷ []) 0 (at_clock 0 (with_objects (leaf sends_both) (refs 0 1) cycle ∷ within (sequence (leaf hears) (steps (sends_one ∷ []))) nils ∷ before (leaf ends_it) nils ∷ [])) ∷
    takes (internal 2 [] Call (at 24 6) ∷ message_one ∷ []) 0 (at_clock 0 (with_objects (leaf sends_both) (refs 0 1) cycle ∷ within (sequence (leaf hears) (steps (sends_one ∷ []))) nils ∷ within (leaf hears_last) nils ∷ [])) ∷
    last

works_out_later : Computed setting (at_clock 0 (with_objects (leaf sends_both) (refs 0 1) cycle ∷ before (leaf forwards) nils ∷ before (leaf ends_it) nils ∷ [])) later Finished
unfolding evaluations
works_out_later = acts refl refl refl refl refl refl (acts refl refl refl refl refl refl (works_out_last))

abbrev events : List Shown
events =
    takes (internal 0 [] Call (at 9 6) ∷ internal 1 [] Call (at 18 6) ∷ internal 2 [] Call (at 24 6) ∷ []) 0 (at_clock 0 (with_objects (sequence (leaf makes_a) (steps (makes_b ∷ sets_a ∷ sets_b ∷ sends_both ∷ []))) nils [] ∷ before (leaf forwards) nils ∷ before (leaf ends_it) nils ∷ [])) ∷
    takes (internal 0 (0 ∷ 0 ∷ []) Eval (at 11 1) ∷ internal 1 [] Call (at 18 6) ∷ internal 2 [] Call (at 24 6) ∷ []) 0 (at_clock 0 (with_objects (sequence (leaf makes_b) (steps (sets_a ∷ sets_b ∷ sends_both ∷ []))) (Ref 0 ∷ Nil ∷ []) (n_of Nil Nil ∷ []) ∷ before (leaf forwards) nils ∷ before (leaf ends_it) nils ∷ [])) ∷
    takes (internal 0 (0 ∷ 0 ∷ []) Eval (at 11 14) ∷ internal 1 [] Call (at 18 6) ∷ internal 2 [] Call (at 24 6) ∷ []) 0 (at_clock 0 (with_objects (sequence (leaf sets_a) (steps (sets_b ∷ sends_both ∷ []))) (refs 0 1) (n_of Nil Nil ∷ n_of Nil Nil ∷ []) ∷ before (leaf forwards) nils ∷ before (leaf ends_it) nils ∷ [])) ∷
    takes (internal 0 (0 ∷ 0 ∷ []) Eval (at 12 1) ∷ internal 1 [] Call (at 18 6) ∷ internal 2 [] Call (at 24 6) ∷ []) 0 (at_clock 0 (with_objects (sequence (leaf sets_b) (steps (sends_both ∷ []))) (refs 0 1) (n_of (Ref 1) (number 1) ∷ n_of Nil Nil ∷ []) ∷ before (leaf forwards) nils ∷ before (leaf ends_it) nils ∷ [])) ∷
    takes (internal 0 (0 ∷ 0 ∷ []) Eval (at 12 14) ∷ internal 1 [] Call (at 18 6) ∷ internal 2 [] Call (at 24 6) ∷ []) 0 (at_clock 0 (with_objects (leaf sends_both) (refs 0 1) cycle ∷ before (leaf forwards) nils ∷ before (leaf ends_it) nils ∷ [])) ∷
    later

pub trace : Trace setting events Finished
unfolding evaluations
trace = traced setting refl (before (leaf begins) nils ∷ before (leaf forwards) nils ∷ before (leaf ends_it) nils ∷ []) events Finished refl (acts refl refl refl refl refl refl (acts refl refl refl refl refl refl (acts refl refl refl refl refl refl (acts refl refl refl refl refl refl (acts refl refl refl refl refl refl (works_out_later))))))
