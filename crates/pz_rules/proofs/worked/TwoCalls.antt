-- Two calls of one method side by side: their skips look alike, and are two offers.
--
--   process class P
--   init a()()
--   methods a()()
--   par b()() and b()() rap
--   b()() skip
--   system instances p : P
use Rattle.std.proofs.Common.{ℕ, List, [], ◌∷◌, map, Some, None, codes, refl}
use Rattle.pz_bind_rules.specs.pz_syntax.Expressions.{none}
use Rattle.pz_bind_rules.specs.pz_syntax.Statements.{skip, delay, bracketed, send, receive, call, assignment, value}
use Rattle.pz_bind_rules.specs.pz_syntax.Statements as statement
use Rattle.pz_bind_rules.specs.pz_syntax.Classes.{process_class, ModelTree}
use Rattle.pz_offer.specs.pz_state.States.{Frames}
use Rattle.pz_rules.specs.declared.action.Kind.TheVariants.{Skip, Call}
use Rattle.pz_rules.specs.declared.moment.Moment.TheVariants.{Finished}
use Rattle.pz_rules.specs.Terms.{Step, Term, done, leaf, parallel, frame}
use Rattle.pz_rules.specs.Settings.{Setting, Process}
use Rattle.pz_rules.proofs.worked.Models.{at, id, steps, branches, begins_by, method_of, instance_of, system_of, evaluations, of_model, at_clock, before, terms, internal}
use Rattle.pz_rules.proofs.worked.Shown.{Shown, takes, Trace, acts, ends, traced}

abbrev model : ModelTree
model = record {
  decls =
      process_class (record {
        name = (id (codes "P") 1 15);
        parameters = None;
        parent = None;
        ports = None;
        messages = None;
        variables = None;
        start = begins_by (id (codes "a") 2 6);
        methods = (Some (method_of (id (codes "a") 3 9) (steps ((statement.parallel (at 4 1) (branches ((steps ((call (at 4 5) (id (codes "b") 4 5) none []) ∷ [])) ∷ (steps ((call (at 4 15) (id (codes "b") 4 15) none []) ∷ [])) ∷ []))) ∷ [])) ∷ method_of (id (codes "b") 5 1) (steps ((skip (at 5 7)) ∷ [])) ∷ []));
      }) ∷
      system_of (at 6 1) (instance_of (id (codes "p") 6 18) (id (codes "P") 6 22) None ∷ []) None ∷ [];
}

abbrev setting : Setting
setting = of_model model

-- Its statements

abbrev begins : Step
begins = call (at 2 6) (id (codes "a") 2 6) none []

abbrev calls_b : Step
calls_b = call (at 4 5) (id (codes "b") 4 5) none []

abbrev calls_b_too : Step
calls_b_too = call (at 4 15) (id (codes "b") 4 15) none []

abbrev rests : Step
rests = skip (at 5 7)

-- Where it stands: with the frames of these numbers, which have no locals

abbrev numbered : List ℕ → Frames
numbered numbers = map (λ n. (n, [])) numbers

abbrev with_frames : List ℕ → Term → Term → Process
with_frames numbers t u = record { term = frame 1 0 [] (parallel (terms (t ∷ u ∷ []))); state = record { vars = []; frames = numbered numbers; objects = [] } }

abbrev in_b : ℕ → Term
in_b n = frame n 0 [] (leaf rests)

abbrev events : List Shown
events =
    takes (internal 0 [] Call (at 2 6) ∷ []) 0 (at_clock 0 (with_frames (1 ∷ []) (leaf calls_b) (leaf calls_b_too) ∷ [])) ∷
    takes (internal 0 (0 ∷ 0 ∷ []) Call (at 4 5) ∷ internal 0 (0 ∷ 1 ∷ []) Call (at 4 15) ∷ []) 0 (at_clock 0 (with_frames (1 ∷ 2 ∷ []) (in_b 2) (leaf calls_b_too) ∷ [])) ∷
    takes (internal 0 (0 ∷ 0 ∷ 0 ∷ []) Skip (at 5 7) ∷ internal 0 (0 ∷ 1 ∷ []) Call (at 4 15) ∷ []) 1 (at_clock 0 (with_frames (1 ∷ 2 ∷ 3 ∷ []) (in_b 2) (in_b 3) ∷ [])) ∷
    takes (internal 0 (0 ∷ 0 ∷ 0 ∷ []) Skip (at 5 7) ∷ internal 0 (0 ∷ 1 ∷ 0 ∷ []) Skip (at 5 7) ∷ []) 1 (at_clock 0 (with_frames (1 ∷ 2 ∷ []) (in_b 2) done ∷ [])) ∷
    takes (internal 0 (0 ∷ 0 ∷ 0 ∷ []) Skip (at 5 7) ∷ []) 0 (at_clock 0 (before done [] ∷ [])) ∷
    []

pub trace : Trace setting events Finished
unfolding evaluations
trace = traced setting refl (before (leaf begins) [] ∷ []) events Finished refl (acts refl refl refl refl refl refl (acts refl refl refl refl refl refl (acts refl refl refl refl refl refl (acts refl refl refl refl refl refl (acts refl refl refl refl refl refl (ends refl refl refl refl refl))))))
