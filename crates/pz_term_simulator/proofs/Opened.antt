-- What opens keeps the variables and the objects of its process, so that what is shown of a process that
-- has just begun is what it was given.
use Rattle.std.proofs.Common.{◌≡◌, ◌∙◌, ℕ, zero, suc, List, [], ◌∷◌, ◌++◌, map, Option, Some, None, refl, subst, sym}
use Rattle.std.specs.Prelude.{slice_get, unwrap_or, take}
use Rattle.std.specs.List.{flat_map}
use Rattle.pz_rules.specs.pz_syntax.Expressions.{none, more}
use Rattle.pz_rules.specs.pz_syntax.Statements.{skip, delay, bracketed, block, guarded, parallel, select, conditional, repeated, abort, interrupt, send, receive, call, assignment, value, no_statements, then, Branches, no_branches, branch}
use Rattle.pz_rules.specs.pz_value.declared.value.ClassId.{ClassId}
use Rattle.pz_rules.specs.pz_value.declared.value.Value.{Value}
use Rattle.pz_rules.specs.pz_classes_code.declared.slot.Slot.{Slot}
use Rattle.pz_rules.specs.pz_classes_rules.Bodies.{BodyTree, data_body, process_body}
use Rattle.pz_rules.specs.pz_classes_rules.Starts.{init}
use Rattle.pz_rules.specs.pz_state.Objects.{ObjectView}
use Rattle.pz_rules.specs.pz_state.States.{StateView, initial, value_at, variable, no_object, opened as with_frame}
use Rattle.pz_rules.specs.pz_copy.Parcels.{ParcelView}
use Rattle.pz_rules.specs.pz_copy.References.{references, IsIn, renumbered_object}
use Rattle.pz_rules.specs.pz_copy.Packing.{IsParcelOf, firsts, place_in}
use Rattle.pz_bind_levels.specs.Places.{Address}
use Rattle.pz_rules.specs.pz_bind_rules.Nest.{class_at}
use Rattle.pz_rules.specs.pz_bind_rules.Values.{values_at}
use Rattle.pz_rules.specs.declared.limits.Edition.{Edition}
use Rattle.pz_rules.specs.declared.limits.Edition.TheVariants.{One, Two}
use Rattle.pz_rules.specs.Terms.{Step, Steps}
use Rattle.pz_rules.specs.Settings.{Setting, Process, Home}
use Rattle.pz_rules.specs.FrameNumbers.{least_free}
use Rattle.pz_rules.specs.Opening.{step_opened, steps_opened, branches_opened, called_body, by_body, entered_to, depth_of, enter_in, enter}
use Rattle.pz_rules.specs.Starting.{home_at}
use Rattle.pz_rules.specs.devices.Start.{begins_by, start_at}

-- frames alone are others
record Keeps (s t : StateView) : Type 0 where
  vars : t.vars ≡ s.vars
  objects : t.objects ≡ s.objects

same : (s : StateView) → Keeps s s
same s = record { vars = refl; objects = refl }

both : (s t u : StateView) → Keeps s t → Keeps t u → Keeps s u
both s t u a b = record { vars = b.vars ∙ a.vars; objects = b.objects ∙ a.objects }

module _ (enter : Step → StateView → Process) (enters : (r : Step) (s : StateView) → Keeps s (enter r s).state) where
  mutual
    step_keeps : (r : Step) (s : StateView) → Keeps s (step_opened enter r s).state
    step_keeps (bracketed at ts) s = steps_keep ts s
    step_keeps (guarded at e t) s = step_keeps t s
    step_keeps (parallel at bs) s = branches_keep bs s
    step_keeps (select at bs) s = branches_keep bs s
    step_keeps (abort at ts t) s = let x = (steps_opened enter ts s).state in both s x (step_opened enter t x).state (steps_keep ts s) (step_keeps t x)
    step_keeps (interrupt at ts t) s = let x = (steps_opened enter ts s).state in both s x (step_opened enter t x).state (steps_keep ts s) (step_keeps t x)
    step_keeps (call at method none []) s = enters (call at method none []) s
    step_keeps (call at method none (x ∷ xs)) s = same s
    step_keeps (call at method (more e es) results) s = same s
    step_keeps (skip at) s = same s
    step_keeps (delay at e) s = same s
    step_keeps (block at es) s = same s
    step_keeps (conditional at e ts other) s = same s
    step_keeps (repeated at e ts) s = same s
    step_keeps (send at port name args after) s = same s
    step_keeps (receive at port name into condition after) s = same s
    step_keeps (assignment at x e) s = same s
    step_keeps (value at e) s = same s

    steps_keep : (ts : Steps) (s : StateView) → Keeps s (steps_opened enter ts s).state
    steps_keep no_statements s = same s
    steps_keep ((then) r no_statements) s = step_keeps r s
    steps_keep ((then) r ((then) q rest)) s = step_keeps r s

    branches_keep : (bs : Branches Slot ClassId ℕ) (s : StateView) → Keeps s (branches_opened enter bs s).state
    branches_keep no_branches s = same s
    branches_keep (branch ts bs) s = let x = (steps_opened enter ts s).state in both s x (branches_opened enter bs x).state (steps_keep ts s) (branches_keep bs x)

entered_keeps : (h : Home) (depth : ℕ) (r : Step) (s : StateView) → Keeps s (entered_to h depth r s).state
entered_keeps h zero r s = same s
entered_keeps h (suc depth) (call at method args results) s = by (called_body h method) (entered_keeps h depth)
  where
    by : (o : Option BodyTree) → ((r : Step) (s : StateView) → Keeps s (entered_to h depth r s).state) → Keeps s (by_body o (steps_opened (entered_to h depth)) (call at method args results) s).state
    by None deeper = same s
    by (Some (data_body locals body)) deeper = same s
    by (Some (process_body locals body)) deeper =
        let inside = with_frame s (least_free s.frames) locals in
        both s inside (steps_opened (entered_to h depth) body inside).state (record { vars = refl; objects = refl }) (steps_keep (entered_to h depth) deeper body inside)
entered_keeps h (suc depth) r s = same s

enter_keeps : (e : Edition) (h : Home) (r : Step) (s : StateView) → Keeps s (enter_in e h r s).state
enter_keeps One h r s = same s
enter_keeps Two h r s = entered_keeps h (depth_of h.model) r s

-- a process that has just begun has the variables that it was given, and no object
begins_keep : (setting : Setting) (place : Address) (o : Option Step) → Keeps (initial (values_at setting.model place)) (begins_by setting place o).state
begins_keep setting place None = same (initial (values_at setting.model place))
begins_keep setting place (Some first) =
    let h = home_at setting place in
    let kept = step_keeps (enter h) (enter_keeps h.edition h) first (initial (values_at setting.model place)) in
    record { vars = kept.vars; objects = kept.objects }

-- a parcel is one in any state with the same objects
pub moved : (s t : StateView) (values : List Value) (p : ParcelView) → t.objects ≡ s.objects → IsParcelOf s values p → IsParcelOf t values p
moved s t values p e is = record {
  listed = is.listed;
  listing = record {
    equation = subst (λ (os : List ObjectView). is.listed ≡ firsts (references values ++ flat_map (λ r. references (unwrap_or (slice_get os r) no_object).items) is.listed)) (sym e) is.listing.equation;
    grounded =
        subst (λ (os : List ObjectView). (i r : ℕ) → slice_get is.listed i ≡ Some r → IsIn r (references values ++ flat_map (λ q. references (unwrap_or (slice_get os q) no_object).items) (take i is.listed))) (sym e)
        is.listing.grounded;
  };
  values = is.values;
  objects = subst (λ (os : List ObjectView). p.objects ≡ map (λ r. renumbered_object (place_in is.listed) (unwrap_or (slice_get os r) no_object)) is.listed) (sym e) is.objects;
}

-- what is shown of it
pub begun_shows : (setting : Setting) (place : Address) (v : ℕ) (p : ParcelView) → IsParcelOf (initial (values_at setting.model place)) (value_at (values_at setting.model place) v ∷ []) p
    → IsParcelOf (start_at setting place).state (variable (start_at setting place).state v ∷ []) p
begun_shows setting place v p is =
    let s = (start_at setting place).state in
    let kept = begins_keep setting place (init setting.model (class_at setting.model place)) in
    subst (λ (vs : List Value). IsParcelOf s (value_at vs v ∷ []) p) (sym kept.vars)
    (moved (initial (values_at setting.model place)) s (value_at (values_at setting.model place) v ∷ []) p kept.objects is)
