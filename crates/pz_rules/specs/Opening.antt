-- How statements become terms, without an action: what is in brackets, a sequence, `par`, `sel`, a
-- guard, `abort` and `interrupt` open at once, from left to right, each part in the state that those
-- before it leave. In edition Two so does a plain call, one without inputs and without results: as the
-- frame of its method's body, by the class of the process. Every other statement stands as it is.
use Rattle.std.specs.Prelude.{ℕ, zero, suc, [], length, Option, Some, None}
use Rattle.pz_bind_rules.specs.pz_syntax.declared.names.Id.{Id}
use Rattle.pz_bind_rules.specs.pz_syntax.Expressions.{none}
use Rattle.pz_bind_rules.specs.pz_syntax.Statements.{bracketed, guarded, parallel, select, abort, interrupt, call, no_statements, then, StatementPart, not_written, otherwise, Branches, no_branches, branch}
use Rattle.pz_bind_rules.specs.pz_syntax.Classes.{ModelTree}
use Rattle.pz_bind_rules.specs.pz_value.declared.value.ClassId.{ClassId}
use Rattle.pz_bind_rules.specs.pz_classes_code.declared.slot.Slot.{Slot}
use Rattle.pz_bind_rules.specs.pz_classes_rules.Bodies.{BodyTree, data_body, process_body}
use Rattle.pz_bind_rules.specs.pz_classes_rules.MethodBodies.{process_method_body}
use Rattle.pz_classes_openings.specs.Methods.{methods}
use Rattle.pz_offer.specs.pz_state.States.{StateView, opened as with_frame}
use Rattle.pz_rules.specs.declared.limits.Edition.{Edition}
use Rattle.pz_rules.specs.declared.limits.Edition.TheVariants.{One, Two}
use Rattle.pz_rules.specs.Terms.{Step, Steps, done, leaf, sequence, Terms, no_terms, and}
use Rattle.pz_rules.specs.Terms as terms
use Rattle.pz_rules.specs.Settings.{Process, left_by, Home}
use Rattle.pz_rules.specs.FrameNumbers.{least_free}
use Rattle.pz_rules.specs.Framing.{framed}

-- terms side by side, and the state that their opening leaves
pub record Beside : Type 0 where
  pub terms : Terms
  pub state : StateView

-- where a plain call becomes what `enter` says
module _ (enter : Step → StateView → Process) where
  abbrev mutual
    pub step_opened : Step → StateView → Process
    step_opened (bracketed pos ts) s = steps_opened ts s
    step_opened (guarded pos test t) s = let x = step_opened t s in left_by x.state (terms.guarded test pos x.term)
    step_opened (parallel pos bs) s = let xs = branches_opened bs s in left_by xs.state (terms.parallel xs.terms)
    step_opened (select pos bs) s = let xs = branches_opened bs s in left_by xs.state (terms.select xs.terms)
    step_opened (abort pos ts t) s =
        let x = steps_opened ts s in
        let y = step_opened t x.state in
        left_by y.state (terms.abort x.term y.term)
    step_opened (interrupt pos ts t) s =
        let x = steps_opened ts s in
        let y = step_opened t x.state in
        left_by y.state (terms.idle x.term y.term t)
    step_opened (call pos method none []) s = enter (call pos method none []) s
    step_opened r s = left_by s (leaf r)

    -- the first statement stands open, and the others wait behind it
    pub steps_opened : Steps → StateView → Process
    steps_opened no_statements s = left_by s done
    steps_opened (then r no_statements) s = step_opened r s
    steps_opened (then r (then q rest)) s = let x = step_opened r s in left_by x.state (sequence x.term (then q rest))

    pub branches_opened : Branches Slot ClassId ℕ → StateView → Beside
    branches_opened no_branches s = record { terms = no_terms; state = s }
    branches_opened (branch ts bs) s =
        let x = steps_opened ts s in
        let xs = branches_opened bs x.state in
        record { terms = and x.term xs.terms; state = xs.state }

-- a new frame with so many locals, all nil, round what opens in it
abbrev pub in_frame : ℕ → (StateView → Process) → StateView → Process
in_frame locals inside s =
    let number = least_free s.frames in
    let x = inside (with_frame s number locals) in
    left_by x.state (framed number 0 [] x.term)

-- the body of the method that a plain call of this name means
abbrev pub called_body : Home → Id → Option BodyTree
called_body h method = process_method_body h.model h.class method.name 0 0

-- a plain call of the method with this body; one of none, as in no sound model, stands as it is
abbrev pub by_body : Option BodyTree → (Steps → StateView → Process) → Step → StateView → Process
by_body (Some (process_body locals body)) opens r s = in_frame locals (opens body) s
by_body (Some (data_body locals body)) opens r s = left_by s (leaf r)
by_body None opens r s = left_by s (leaf r)

-- calls are followed so many methods deep, one in another; a call that is deeper stands as it is
abbrev pub entered_to : Home → ℕ → Step → StateView → Process
entered_to h zero r s = left_by s (leaf r)
entered_to h (suc depth) (call pos method args results) s = by_body (called_body h method) (steps_opened (entered_to h depth)) (call pos method args results) s
entered_to h (suc depth) r s = left_by s (leaf r)

-- As deep as there are methods: where no method begins with itself, no call is deeper (`CallsUnfold` of
-- `CallLaws`).
abbrev pub depth_of : ModelTree → ℕ
depth_of m = length (methods m)

-- what a plain call becomes; in edition One it is an action of its own, like any other call
abbrev pub enter_in : Edition → Home → Step → StateView → Process
enter_in One h r s = left_by s (leaf r)
enter_in Two h r s = entered_to h (depth_of h.model) r s

abbrev pub enter : Home → Step → StateView → Process
enter h = enter_in h.edition h

abbrev pub opened : Home → Step → StateView → Process
opened h = step_opened (enter h)

abbrev pub opened_all : Home → Steps → StateView → Process
opened_all h = steps_opened (enter h)

-- what is not written is done
abbrev pub opened_part : Home → StatementPart Slot ClassId ℕ → StateView → Process
opened_part h not_written s = left_by s done
opened_part h (otherwise ts) s = opened_all h ts s
