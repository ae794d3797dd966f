-- Calls that open at once, worked out.
--
--   process class P
--   init a()()
--   methods a()() par b()() and c()() rap
--   b()() skip
--   c()() d()()
--   d()() skip; d()()
--   e()() sel b()() or [true] d()() les
--   f()() interrupt d()() with b()()
--   process class Q extends P
--   methods b()() d()()
use Rattle.std.proofs.Common.{◌≡◌, ℕ, List, [], ◌∷◌, map, Some, None, codes, refl}
use Rattle.pz_bind_rules.specs.pz_syntax.declared.exprs.Literal.TheVariants as literal
use Rattle.pz_bind_rules.specs.pz_syntax.Expressions.{Expression, none}
use Rattle.pz_bind_rules.specs.pz_syntax.Expressions as expression
use Rattle.pz_bind_rules.specs.pz_syntax.Statements.{Statement, skip, call}
use Rattle.pz_bind_rules.specs.pz_syntax.Statements as statement
use Rattle.pz_bind_rules.specs.pz_syntax.Classes.{process_class, ModelTree}
use Rattle.pz_bind_rules.specs.pz_classes_code.declared.slot.Slot.TheVariants.{Shared}
use Rattle.pz_offer.specs.pz_state.States.{StateView, initial}
use Rattle.pz_rules.specs.declared.limits.Edition.{Edition}
use Rattle.pz_rules.specs.declared.limits.Edition.TheVariants.{One, Two}
use Rattle.pz_rules.specs.Terms.{Term, done, leaf, sequence, parallel, select, guarded, frame, idle}
use Rattle.pz_rules.specs.Settings.{Home, left_by}
use Rattle.pz_rules.specs.Opening.{opened}
use Rattle.pz_rules.specs.InternalActions.{entered}
use Rattle.pz_rules.specs.Leaving.{residual, swept}
use Rattle.pz_rules.proofs.worked.Models.{at, id, steps, branches, begins_by, method_of, terms, number}

abbrev calls : {X K Q : Type 0} → List ℕ → ℕ → ℕ → Statement X K Q
calls name line column = call (at line column) (id name line column) none []

abbrev always : {X K : Type 0} → Expression X K
always = expression.literal (at 7 20) literal.True

-- The model

abbrev model : ModelTree
model = record {
  decls =
      process_class (record {
        name = (id (codes "P") 1 15);
        parameters = None;
        parent = None;
        ports = None;
        messages = None;
        variables = None;
        start = begins_by (id (codes "a") 2 6);
        methods = Some (
            method_of (id (codes "a") 3 9) (steps (statement.parallel (at 3 15) (branches (steps (calls (codes "b") 3 19 ∷ []) ∷ steps (calls (codes "c") 3 29 ∷ []) ∷ [])) ∷ [])) ∷
            method_of (id (codes "b") 4 1) (steps (skip (at 4 7) ∷ [])) ∷
            method_of (id (codes "c") 5 1) (steps (calls (codes "d") 5 7 ∷ [])) ∷
            method_of (id (codes "d") 6 1) (steps (skip (at 6 7) ∷ calls (codes "d") 6 13 ∷ [])) ∷
            method_of (id (codes "e") 7 1) (steps (statement.select (at 7 7) (branches (steps (calls (codes "b") 7 11 ∷ []) ∷ steps (statement.guarded (at 7 19) always (calls (codes "d") 7 26) ∷ []) ∷ [])) ∷ [])) ∷
            method_of (id (codes "f") 8 1) (steps (statement.interrupt (at 8 7) (steps (calls (codes "d") 8 17 ∷ [])) (calls (codes "b") 8 28) ∷ [])) ∷
            []);
      }) ∷
      process_class (record {
        name = (id (codes "Q") 9 15);
        parameters = None;
        parent = Some (id (codes "P") 9 25);
        ports = None;
        messages = None;
        variables = None;
        start = None;
        methods = Some (method_of (id (codes "b") 10 9) (steps (calls (codes "d") 10 15 ∷ [])) ∷ []);
      }) ∷ [];
}

abbrev home_in : Edition → Home
home_in edition = record { model = model; edition = edition; class = 1 }

abbrev home : Home
home = home_in Two

abbrev with_frames : List ℕ → StateView
with_frames numbers = record { vars = []; frames = map (λ n. (n, [])) numbers; objects = [] }

abbrev in_b : ℕ → Term
in_b n = frame n 0 [] (leaf (skip (at 4 7)))

abbrev in_d : ℕ → Term
in_d n = frame n 0 [] (sequence (leaf (skip (at 6 7))) (steps (calls (codes "d") 6 13 ∷ [])))

-- What opens

abbrev start_term : Term
start_term = frame 1 0 [] (parallel (terms (in_b 2 ∷ in_d 4 ∷ [])))

-- The frame of `c` is all of that of `d`, which stands in its place; it stays in the state until the
-- action is over. What stands behind a first statement waits.
the_start_opens : opened home (calls (codes "a") 2 6) (initial []) ≡ left_by (with_frames (1 ∷ 2 ∷ 3 ∷ 4 ∷ [])) start_term
the_start_opens = refl

-- at the start no action takes place, and yet it goes
the_start_is_swept : swept (opened home (calls (codes "a") 2 6) (initial [])) ≡ left_by (with_frames (1 ∷ 2 ∷ 4 ∷ [])) start_term
the_start_is_swept = refl

-- in edition One the call is an action
the_start_stands : opened (home_in One) (calls (codes "a") 2 6) (initial []) ≡ left_by (initial []) (leaf (calls (codes "a") 2 6))
the_start_stands = refl

-- the method is that of the class of the process, also where an inherited body calls it
in_the_child : opened (record { model = model; edition = Two; class = 2 }) (calls (codes "a") 2 6) (initial []) ≡ left_by (with_frames (1 ∷ 2 ∷ 3 ∷ 4 ∷ 5 ∷ [])) (frame 1 0 [] (parallel (terms (in_d 3 ∷ in_d 5 ∷ []))))
in_the_child = refl

-- a frame that is free is taken first
a_free_number : opened home (calls (codes "c") 5 7) (with_frames (2 ∷ [])) ≡ left_by (with_frames (1 ∷ 2 ∷ 3 ∷ [])) (in_d 3)
a_free_number = refl

-- a method that is not there
unknown_stands : opened home (calls (codes "z") 11 1) (with_frames []) ≡ left_by (with_frames []) (leaf (calls (codes "z") 11 1))
unknown_stands = refl

-- all alternatives open, and so does what is behind a guard
abbrev alternatives : Term
alternatives = frame 1 0 [] (select (terms (in_b 2 ∷ guarded always (at 7 19) (in_d 3) ∷ [])))

alternatives_open : opened home (calls (codes "e") 11 1) (initial []) ≡ left_by (with_frames (1 ∷ 2 ∷ 3 ∷ [])) alternatives
alternatives_open = refl

-- so do both parts of an `interrupt`
abbrev with_handler : ℕ → Term
with_handler n = frame 1 0 [] (idle (in_d 2) (in_b n) (calls (codes "b") 8 28))

both_parts_open : opened home (calls (codes "f") 11 1) (initial []) ≡ left_by (with_frames (1 ∷ 2 ∷ 3 ∷ [])) (with_handler 3)
both_parts_open = refl

-- What actions leave

-- The second alternative acts. Its rest opens beside its frame, and stands in the place of that and of the
-- frame around. Then the frames that stand no longer go, that of the other alternative among them.
one_is_taken : residual home 0 alternatives (0 ∷ 1 ∷ 0 ∷ 0 ∷ 0 ∷ []) (left_by (with_frames (1 ∷ 2 ∷ 3 ∷ [])) done) ≡ left_by (with_frames (1 ∷ 2 ∷ 3 ∷ 4 ∷ [])) (in_d 4)
one_is_taken = refl

one_stays : swept (left_by (with_frames (1 ∷ 2 ∷ 3 ∷ 4 ∷ [])) (in_d 4)) ≡ left_by (with_frames (4 ∷ [])) (in_d 4)
one_stays = refl

-- a handler that is done opens afresh, in a frame of its own
handler_reopens : residual home 0 (with_handler 3) (0 ∷ 1 ∷ 0 ∷ []) (left_by (with_frames (1 ∷ 2 ∷ 3 ∷ [])) done) ≡ left_by (with_frames (1 ∷ 2 ∷ 3 ∷ 4 ∷ [])) (with_handler 4)
handler_reopens = refl

-- A call with inputs is an action. Where a plain call is all of its body, the frame of that stands in the
-- place of its own, unless it has outputs.

abbrev with_input : StateView
with_input = record { vars = []; frames = (1, []) ∷ (2, number 5 ∷ []) ∷ (3, []) ∷ []; objects = [] }

all_of_it : entered home (with_frames (1 ∷ [])) 1 [] (steps (calls (codes "b") 9 1 ∷ [])) (number 5 ∷ []) ≡ left_by with_input (in_b 3)
all_of_it = refl

outputs_keep_it : entered home (with_frames (1 ∷ [])) 1 (Shared 0 ∷ []) (steps (calls (codes "b") 9 1 ∷ [])) (number 5 ∷ []) ≡ left_by with_input (frame 2 1 (Shared 0 ∷ []) (in_b 3))
outputs_keep_it = refl
