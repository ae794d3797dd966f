-- Calls that are all that is left of their methods: frames do not pile up, neither at the start nor later.
--
--   process class P
--   init a()()
--   methods a()() b()()
--   b()() c()()
--   c()() par skip and d()() rap
--   d()() skip; e()()
--   e()() skip
--   system instances p : P
use Rattle.std.proofs.Common.{◌≡◌, ℕ, List, [], ◌∷◌, map, Some, None, codes, refl}
use Rattle.pz_bind_rules.specs.pz_syntax.Expressions.{none}
use Rattle.pz_bind_rules.specs.pz_syntax.Statements.{Statement, skip, call}
use Rattle.pz_bind_rules.specs.pz_syntax.Statements as statement
use Rattle.pz_bind_rules.specs.pz_syntax.Classes.{process_class, ModelTree}
use Rattle.pz_offer.specs.pz_state.States.{StateView, initial}
use Rattle.pz_rules.specs.declared.limits.Edition.TheVariants.{Two}
use Rattle.pz_rules.specs.declared.action.Kind.TheVariants.{Skip}
use Rattle.pz_rules.specs.declared.moment.Moment.TheVariants.{Finished}
use Rattle.pz_rules.specs.Terms.{Step, Term, done, leaf, sequence, parallel, frame}
use Rattle.pz_rules.specs.Settings.{Setting, Process, left_by}
use Rattle.pz_rules.specs.Opening.{opened}
use Rattle.pz_rules.specs.Starting.{home_at, begins_with}
use Rattle.pz_rules.proofs.worked.Models.{at, id, steps, branches, begins_by, method_of, instance_of, system_of, evaluations, in_edition, at_clock, before, terms, internal}
use Rattle.pz_rules.proofs.worked.Shown.{Shown, takes, Trace, acts, ends, traced}

abbrev called : {X K Q : Type 0} → List ℕ → ℕ → ℕ → Statement X K Q
called name line column = call (at line column) (id name line column) none []

abbrev model : ModelTree
model = record {
  decls =
      process_class (record {
        name = (id (codes "P") 1 15);
        parameters = None;
        parent = None;
        ports = None;
        messages = None;
        variables = None;
        start = begins_by (id (codes "a") 2 6);
        methods = Some (
            method_of (id (codes "a") 3 9) (steps (called (codes "b") 3 15 ∷ [])) ∷
            method_of (id (codes "b") 4 1) (steps (called (codes "c") 4 7 ∷ [])) ∷
            method_of (id (codes "c") 5 1) (steps (statement.parallel (at 5 7) (branches (steps (skip (at 5 11) ∷ []) ∷ steps (called (codes "d") 5 20 ∷ []) ∷ [])) ∷ [])) ∷
            method_of (id (codes "d") 6 1) (steps (skip (at 6 7) ∷ called (codes "e") 6 13 ∷ [])) ∷
            method_of (id (codes "e") 7 1) (steps (skip (at 7 7) ∷ [])) ∷
            []);
      }) ∷
      system_of (at 8 1) (instance_of (id (codes "p") 8 18) (id (codes "P") 8 22) None ∷ []) None ∷ [];
}

abbrev setting : Setting
setting = in_edition Two model

-- Where it stands: with the frames of these numbers, which have no locals

abbrev with_frames : List ℕ → StateView
with_frames numbers = record { vars = []; frames = map (λ n. (n, [])) numbers; objects = [] }

-- of `c`
abbrev side_by_side : List ℕ → Term → Term → Process
side_by_side numbers t u = left_by (with_frames numbers) (frame 3 0 [] (parallel (terms (t ∷ u ∷ []))))

abbrev in_c : Term
in_c = leaf (skip (at 5 11))

abbrev in_d : Term
in_d = frame 4 0 [] (sequence (leaf (skip (at 6 7))) (steps (called (codes "e") 6 13 ∷ [])))

abbrev begins : Step
begins = called (codes "a") 2 6

-- Four frames open, and that of `c` is all that is left of those of `a` and `b`.
all_open : opened (home_at setting (0 ∷ [])) begins (initial []) ≡ side_by_side (1 ∷ 2 ∷ 3 ∷ 4 ∷ []) in_c in_d
all_open = refl

-- The start is no action, and yet these two go.
two_stand : begins_with setting (0 ∷ []) begins ≡ side_by_side (3 ∷ 4 ∷ []) in_c in_d
two_stand = refl

-- `e` opens beside `d`, whose frame goes at the end of the action.
abbrev in_e : Term
in_e = frame 1 0 [] (leaf (skip (at 7 7)))

abbrev events : List Shown
events =
    takes (internal 0 (0 ∷ 0 ∷ []) Skip (at 5 11) ∷ internal 0 (0 ∷ 1 ∷ 0 ∷ 0 ∷ []) Skip (at 6 7) ∷ []) 1 (at_clock 0 (side_by_side (1 ∷ 3 ∷ []) in_c in_e ∷ [])) ∷
    takes (internal 0 (0 ∷ 0 ∷ []) Skip (at 5 11) ∷ internal 0 (0 ∷ 1 ∷ 0 ∷ []) Skip (at 7 7) ∷ []) 0 (at_clock 0 (side_by_side (1 ∷ 3 ∷ []) done in_e ∷ [])) ∷
    takes (internal 0 (0 ∷ 1 ∷ 0 ∷ []) Skip (at 7 7) ∷ []) 0 (at_clock 0 (before done [] ∷ [])) ∷
    []

pub trace : Trace setting events Finished
unfolding evaluations
trace = traced setting refl (side_by_side (3 ∷ 4 ∷ []) in_c in_d ∷ []) events Finished refl (acts refl refl refl refl refl refl (acts refl refl refl refl refl refl (acts refl refl refl refl refl refl (ends refl refl refl refl refl))))
