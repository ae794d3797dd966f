-- What opens at the start is too high in the second process and the third: the run is over before any
-- action, and the second is told, at the name of its method in `init`.
--
--   process class P
--   init a()()
--   methods a()() skip
--   process class Q
--   init b()()
--   methods b()() par skip and par skip and skip rap rap
--   system instances p : P q : Q r : Q
use Rattle.std.proofs.Common.{◌≡◌, ◌≤◌, ◌<◌, ℕ, zero, suc, [], ◌∷◌, Some, None, codes, refl, subst, arith}
use Rattle.std.specs.Prelude.{slice_get}
use Rattle.pz_bind_rules.specs.pz_syntax.Expressions.{none}
use Rattle.pz_bind_rules.specs.pz_syntax.Statements.{Statements, skip}
use Rattle.pz_bind_rules.specs.pz_syntax.Statements as statement
use Rattle.pz_bind_rules.specs.pz_syntax.Classes.{DeclTree, process_class, ModelTree}
use Rattle.pz_bind_rules.specs.pz_syntax.declared.names.Id.{Id}
use Rattle.pz_offer.specs.declared.trouble.Trouble.TheVariants.{High}
use Rattle.pz_rules.specs.declared.limits.Edition.TheVariants.{Two}
use Rattle.pz_rules.specs.declared.moment.Moment.TheVariants.{Stopped}
use Rattle.pz_rules.specs.Terms.{leaf, parallel, height}
use Rattle.pz_rules.specs.Settings.{Setting, Process}
use Rattle.pz_rules.specs.Configurations.{Config}
use Rattle.pz_rules.specs.Moments.{high}
use Rattle.pz_rules.proofs.Locals.{some_is}
use Rattle.pz_rules.proofs.worked.Models.{at, id, steps, branches, begins_by, method_of, instance_of, system_of, at_clock, within, terms}
use Rattle.pz_rules.proofs.worked.Shown.{Trace, starts_there}

abbrev class_of : Id → Id → Id → Statements Id Id Id → DeclTree
class_of name first method body = process_class (record { name = name; parameters = None; parent = None; ports = None; messages = None; variables = None; start = begins_by first; methods = Some (method_of method body ∷ []) })

abbrev model : ModelTree
model = record {
  decls =
      class_of (id (codes "P") 1 15) (id (codes "a") 2 6) (id (codes "a") 3 9) (steps (skip (at 3 15) ∷ [])) ∷
      class_of (id (codes "Q") 4 15) (id (codes "b") 5 6) (id (codes "b") 6 9) (steps (statement.parallel (at 6 15) (branches (steps (skip (at 6 19) ∷ []) ∷ steps (statement.parallel (at 6 28) (branches (steps (skip (at 6 32) ∷ []) ∷ steps (skip (at 6 41) ∷ []) ∷ [])) ∷ []) ∷ [])) ∷ [])) ∷
      system_of (at 7 1) (instance_of (id (codes "p") 7 18) (id (codes "P") 7 22) None ∷ instance_of (id (codes "q") 7 24) (id (codes "Q") 7 28) None ∷ instance_of (id (codes "r") 7 30) (id (codes "Q") 7 34) None ∷ []) None ∷ [];
}

-- a frame of one statement is low enough, and one with two `par` in it is not
abbrev setting : Setting
setting = record { model = model; limits = record { units = 1000; depth = 20; height = 3; edition = Two } }

abbrev low : Process
low = within (leaf (skip (at 3 15))) []

abbrev nested : Process
nested = within (parallel (terms (leaf (skip (at 6 19)) ∷ parallel (terms (leaf (skip (at 6 32)) ∷ leaf (skip (at 6 41)) ∷ [])) ∷ []))) []

abbrev start : Config
start = at_clock 0 (low ∷ nested ∷ nested ∷ [])

before_it : (i : ℕ) (p : Process) → slice_get start.processes i ≡ Some p → i < 1 → height p.term ≤ 3
before_it zero p is less = subst (λ (q : Process). height q.term ≤ 3) (some_is is) (omega arith)
before_it (suc i) p is less = absurd (omega (arith, less))

pub trace : Trace setting [] (Stopped (High 1 (at 5 6)))
trace = record {
  start = start;
  starts = starts_there setting start.processes refl;
  shows = record {
    applies = high (High 1 (at 5 6)) (record {
      number = 1;
      process = nested;
      seen = record { setting = setting; process = 1; class = 2; clock = 0; state = nested.state };
      stands = record { place = 1 ∷ []; is_process = refl; is_here = refl; seen = refl };
      high = omega arith;
      first = before_it;
      pos = at 5 6;
      method = id (codes "b") 5 6;
      args = none;
      begins = refl;
      says = refl;
    });
    first = λ n said. omega arith;
  };
}
