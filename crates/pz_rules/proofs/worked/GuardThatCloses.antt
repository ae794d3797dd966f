-- A guard that closes at the very moment at which nothing is left of the delay behind it: the delay does
-- not end, and so the process never does.
--
--   process class P
--   variables n : Integer
--   init a()()
--   methods a()()
--   n := 1;
--   par
--   [currentTime < 5] delay 5
--   and
--   delay 8
--   rap
--   system instances p : P
use Rattle.std.proofs.Common.{List, [], ◌∷◌, Some, None, codes, refl}
use Rattle.pz_bind_rules.specs.pz_syntax.declared.tokens.Symbol.TheVariants.{Less}
use Rattle.pz_bind_rules.specs.pz_syntax.Expressions.{clock, chain, assign, none, no_links, link}
use Rattle.pz_bind_rules.specs.pz_syntax.Statements.{skip, delay, bracketed, send, receive, call, assignment, value}
use Rattle.pz_bind_rules.specs.pz_syntax.Statements as statement
use Rattle.pz_bind_rules.specs.pz_syntax.Classes.{process_class, ModelTree}
use Rattle.pz_bind_rules.specs.pz_value.declared.value.Value.TheVariants.{Nil}
use Rattle.pz_bind_rules.specs.pz_classes_code.declared.slot.Slot.TheVariants.{Shared}
use Rattle.pz_rules.specs.declared.action.Kind.TheVariants.{Eval, Expire, Call}
use Rattle.pz_rules.specs.declared.moment.Moment.TheVariants.{Deadlock}
use Rattle.pz_rules.specs.Terms.{Code, Step, done, leaf, wait, sequence, parallel, guarded}
use Rattle.pz_rules.specs.Settings.{Setting}
use Rattle.pz_rules.proofs.worked.Models.{at, id, integer, steps, branches, group_of, begins_by, method_of, instance_of, system_of, evaluations, of_model, at_clock, before, within, terms, number, internal}
use Rattle.pz_rules.proofs.worked.Shown.{Shown, takes, waits, Trace, acts, passes, locks, traced}

abbrev model : ModelTree
model = record {
  decls =
      process_class (record {
        name = (id (codes "P") 1 15);
        parameters = None;
        parent = None;
        ports = None;
        messages = None;
        variables = (Some (group_of ((id (codes "n") 2 11) ∷ []) (id (codes "Integer") 2 15) ∷ []));
        start = begins_by (id (codes "a") 3 6);
        methods = (Some (method_of (id (codes "a") 4 9) (steps ((assignment (at 5 1) (id (codes "n") 5 1) (integer (at 5 6) 1)) ∷ (statement.parallel (at 6 1) (branches ((steps ((statement.guarded (at 7 1) (chain (at 7 2) (clock (at 7 2)) (link Less (at 7 14) (integer (at 7 16) 5) no_links)) (delay (at 7 19) (integer (at 7 25) 5))) ∷ [])) ∷ (steps ((delay (at 9 1) (integer (at 9 7) 8)) ∷ [])) ∷ []))) ∷ [])) ∷ []));
      }) ∷
      system_of (at 11 1) (instance_of (id (codes "p") 11 18) (id (codes "P") 11 22) None ∷ []) None ∷ [];
}

abbrev setting : Setting
setting = of_model model

-- Its statements

abbrev begins : Step
begins = call (at 3 6) (id (codes "a") 3 6) none []

abbrev opens_it : Step
opens_it = value (at 5 1) (assign (at 5 1) (Shared 0) (integer (at 5 6) 1))

abbrev both : Step
both = statement.parallel (at 6 1) (branches ((steps ((statement.guarded (at 7 1) (chain (at 7 2) (clock (at 7 2)) (link Less (at 7 14) (integer (at 7 16) 5) no_links)) (delay (at 7 19) (integer (at 7 25) 5))) ∷ [])) ∷ (steps ((delay (at 9 1) (integer (at 9 7) 8)) ∷ [])) ∷ []))

abbrev works : Step
works = delay (at 7 19) (integer (at 7 25) 5)

abbrev delays : Step
delays = delay (at 9 1) (integer (at 9 7) 8)

abbrev test : Code
test = chain (at 7 2) (clock (at 7 2)) (link Less (at 7 14) (integer (at 7 16) 5) no_links)

-- Where it stands: before its first step, and with one variable

abbrev events : List Shown
events =
    takes (internal 0 [] Call (at 3 6) ∷ []) 0 (at_clock 0 (within (sequence (leaf opens_it) (steps (both ∷ []))) (Nil ∷ []) ∷ [])) ∷
    takes (internal 0 (0 ∷ 0 ∷ []) Eval (at 5 1) ∷ []) 0 (at_clock 0 (within (parallel (terms (guarded test (at 7 1) (leaf works) ∷ leaf delays ∷ []))) (number 1 ∷ []) ∷ [])) ∷
    waits 5 (at_clock 5 (within (parallel (terms (guarded test (at 7 1) (wait 0 (at 7 19)) ∷ wait 3 (at 9 1) ∷ []))) (number 1 ∷ []) ∷ [])) ∷
    waits 3 (at_clock 8 (within (parallel (terms (guarded test (at 7 1) (wait 0 (at 7 19)) ∷ wait 0 (at 9 1) ∷ []))) (number 1 ∷ []) ∷ [])) ∷
    takes (internal 0 (0 ∷ 1 ∷ []) Expire (at 9 1) ∷ []) 0 (at_clock 8 (within (parallel (terms (guarded test (at 7 1) (wait 0 (at 7 19)) ∷ done ∷ []))) (number 1 ∷ []) ∷ [])) ∷
    []

pub trace : Trace setting events Deadlock
unfolding evaluations
trace = traced setting refl (before (leaf begins) (Nil ∷ []) ∷ []) events Deadlock refl (acts refl refl refl refl refl refl (acts refl refl refl refl refl refl (passes refl refl refl refl refl (passes refl refl refl refl refl (acts refl refl refl refl refl refl (locks refl refl refl refl refl))))))
