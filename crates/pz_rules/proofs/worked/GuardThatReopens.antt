-- A guard that another part of the same process closes and opens again: meanwhile the delay behind it
-- stands still.
--
--   process class P
--   variables n : Integer
--   init a()()
--   methods a()()
--   n := 1;
--   par
--   [n > 0] delay 5
--   and
--   delay 2; n := 0; delay 3; n := 1
--   rap
--   system instances p : P
use Rattle.std.proofs.Common.{List, [], ◌∷◌, Some, None, codes, refl}
use Rattle.pz_bind_rules.specs.pz_syntax.declared.tokens.Symbol.TheVariants.{Greater}
use Rattle.pz_bind_rules.specs.pz_syntax.Expressions.{variable, chain, assign, none, no_links, link}
use Rattle.pz_bind_rules.specs.pz_syntax.Statements.{skip, delay, bracketed, send, receive, call, assignment, value}
use Rattle.pz_bind_rules.specs.pz_syntax.Statements as statement
use Rattle.pz_bind_rules.specs.pz_syntax.Classes.{process_class, ModelTree}
use Rattle.pz_bind_rules.specs.pz_value.declared.value.Value.TheVariants.{Nil}
use Rattle.pz_bind_rules.specs.pz_classes_code.declared.slot.Slot.TheVariants.{Shared}
use Rattle.pz_rules.specs.declared.action.Kind.TheVariants.{Eval, Expire, Call}
use Rattle.pz_rules.specs.declared.moment.Moment.TheVariants.{Finished}
use Rattle.pz_rules.specs.Terms.{Code, Step, done, leaf, wait, sequence, parallel, guarded}
use Rattle.pz_rules.specs.Settings.{Setting}
use Rattle.pz_rules.proofs.worked.Models.{at, id, integer, steps, branches, group_of, begins_by, method_of, instance_of, system_of, evaluations, of_model, at_clock, before, within, terms, number, internal}
use Rattle.pz_rules.proofs.worked.Shown.{Shown, takes, waits, Trace, Computed, acts, passes, ends, traced}

abbrev model : ModelTree
model = record {
  decls =
      process_class (record {
        name = (id (codes "P") 1 15);
        parameters = None;
        parent = None;
        ports = None;
        messages = None;
        variables = (Some (group_of ((id (codes "n") 2 11) ∷ []) (id (codes "Integer") 2 15) ∷ []));
        start = begins_by (id (codes "a") 3 6);
        methods = (Some (method_of (id (codes "a") 4 9) (steps ((assignment (at 5 1) (id (codes "n") 5 1) (integer (at 5 6) 1)) ∷ (statement.parallel (at 6 1) (branches ((steps ((statement.guarded (at 7 1) (chain (at 7 2) (variable (at 7 2) (id (codes "n") 7 2)) (link Greater (at 7 4) (integer (at 7 6) 0) no_links)) (delay (at 7 9) (integer (at 7 15) 5))) ∷ [])) ∷ (steps ((delay (at 9 1) (integer (at 9 7) 2)) ∷ (assignment (at 9 10) (id (codes "n") 9 10) (integer (at 9 15) 0)) ∷ (delay (at 9 18) (integer (at 9 24) 3)) ∷ (assignment (at 9 27) (id (codes "n") 9 27) (integer (at 9 32) 1)) ∷ [])) ∷ []))) ∷ [])) ∷ []));
      }) ∷
      system_of (at 11 1) (instance_of (id (codes "p") 11 18) (id (codes "P") 11 22) None ∷ []) None ∷ [];
}

abbrev setting : Setting
setting = of_model model

-- Its statements

abbrev begins : Step
begins = call (at 3 6) (id (codes "a") 3 6) none []

abbrev opens_it : Step
opens_it = value (at 5 1) (assign (at 5 1) (Shared 0) (integer (at 5 6) 1))

abbrev both : Step
both = statement.parallel (at 6 1) (branches ((steps ((statement.guarded (at 7 1) (chain (at 7 2) (variable (at 7 2) (Shared 0)) (link Greater (at 7 4) (integer (at 7 6) 0) no_links)) (delay (at 7 9) (integer (at 7 15) 5))) ∷ [])) ∷ (steps ((delay (at 9 1) (integer (at 9 7) 2)) ∷ (value (at 9 10) (assign (at 9 10) (Shared 0) (integer (at 9 15) 0))) ∷ (delay (at 9 18) (integer (at 9 24) 3)) ∷ (value (at 9 27) (assign (at 9 27) (Shared 0) (integer (at 9 32) 1))) ∷ [])) ∷ []))

abbrev works : Step
works = delay (at 7 9) (integer (at 7 15) 5)

abbrev delays : Step
delays = delay (at 9 1) (integer (at 9 7) 2)

abbrev closes : Step
closes = value (at 9 10) (assign (at 9 10) (Shared 0) (integer (at 9 15) 0))

abbrev delays_again : Step
delays_again = delay (at 9 18) (integer (at 9 24) 3)

abbrev reopens : Step
reopens = value (at 9 27) (assign (at 9 27) (Shared 0) (integer (at 9 32) 1))

abbrev test : Code
test = chain (at 7 2) (variable (at 7 2) (Shared 0)) (link Greater (at 7 4) (integer (at 7 6) 0) no_links)

-- Where it stands: before its first step, and with one variable

abbrev later : List Shown
later =
    waits 3 (at_clock 5 (within (parallel (terms (guarded test (at 7 1) (wait 3 (at 7 9)) ∷ sequence (wait 0 (at 9 18)) (steps (reopens ∷ [])) ∷ []))) (number 0 ∷ []) ∷ [])) ∷
    takes (internal 0 (0 ∷ 1 ∷ 0 ∷ []) Expire (at 9 18) ∷ []) 0 (at_clock 5 (within (parallel (terms (guarded test (at 7 1) (wait 3 (at 7 9)) ∷ leaf reopens ∷ []))) (number 0 ∷ []) ∷ [])) ∷
    takes (internal 0 (0 ∷ 1 ∷ []) Eval (at 9 27) ∷ []) 0 (at_clock 5 (within (parallel (terms (guarded test (at 7 1) (wait 3 (at 7 9)) ∷ done ∷ []))) (number 1 ∷ []) ∷ [])) ∷
    waits 3 (at_clock 8 (within (parallel (terms (guarded test (at 7 1) (wait 0 (at 7 9)) ∷ done ∷ []))) (number 1 ∷ []) ∷ [])) ∷
    takes (internal 0 (0 ∷ 0 ∷ 0 ∷ []) Expire (at 7 9) ∷ []) 0 (at_clock 8 (before done (number 1 ∷ []) ∷ [])) ∷
    []

works_out_later : Computed setting (at_clock 2 (within (parallel (terms (guarded test (at 7 1) (wait 3 (at 7 9)) ∷ sequence (leaf delays_again) (steps (reopens ∷ [])) ∷ []))) (number 0 ∷ []) ∷ [])) later Finished
unfolding evaluations
works_out_later = passes refl refl refl refl refl (acts refl refl refl refl refl refl (acts refl refl refl refl refl refl (passes refl refl refl refl refl (acts refl refl refl refl refl refl (ends refl refl refl refl refl)))))

abbrev events : List Shown
events =
    takes (internal 0 [] Call (at 3 6) ∷ []) 0 (at_clock 0 (within (sequence (leaf opens_it) (steps (both ∷ []))) (Nil ∷ []) ∷ [])) ∷
    takes (internal 0 (0 ∷ 0 ∷ []) Eval (at 5 1) ∷ []) 0 (at_clock 0 (within (parallel (terms (guarded test (at 7 1) (leaf works) ∷ sequence (leaf delays) (steps (closes ∷ delays_again ∷ reopens ∷ [])) ∷ []))) (number 1 ∷ []) ∷ [])) ∷
    waits 2 (at_clock 2 (within (parallel (terms (guarded test (at 7 1) (wait 3 (at 7 9)) ∷ sequence (wait 0 (at 9 1)) (steps (closes ∷ delays_again ∷ reopens ∷ [])) ∷ []))) (number 1 ∷ []) ∷ [])) ∷
    takes (internal 0 (0 ∷ 1 ∷ 0 ∷ []) Expire (at 9 1) ∷ []) 0 (at_clock 2 (within (parallel (terms (guarded test (at 7 1) (wait 3 (at 7 9)) ∷ sequence (leaf closes) (steps (delays_again ∷ reopens ∷ [])) ∷ []))) (number 1 ∷ []) ∷ [])) ∷
    takes (internal 0 (0 ∷ 1 ∷ 0 ∷ []) Eval (at 9 10) ∷ []) 0 (at_clock 2 (within (parallel (terms (guarded test (at 7 1) (wait 3 (at 7 9)) ∷ sequence (leaf delays_again) (steps (reopens ∷ [])) ∷ []))) (number 0 ∷ []) ∷ [])) ∷
    later

pub trace : Trace setting events Finished
unfolding evaluations
trace = traced setting refl (before (leaf begins) (Nil ∷ []) ∷ []) events Finished refl (acts refl refl refl refl refl refl (acts refl refl refl refl refl refl (passes refl refl refl refl refl (acts refl refl refl refl refl refl (acts refl refl refl refl refl refl (works_out_later))))))
