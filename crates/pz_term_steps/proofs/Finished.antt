-- What is left of a process, once what its part did stays or is undone.
use Rattle.std.proofs.Common.{◌≡◌, ℕ, List, Result, Ok, Err, Some, sym, subst, ap, ◌∙◌}
use Rattle.std.specs.Prelude.{slice_get}
use Rattle.pz_rules.specs.pz_state.States.{StateView}
use Rattle.pz_rules.specs.pz_state.Marks.{Seen, IsLatest, point_of_first, undone, undone_from, kept}
use Rattle.pz_rules.specs.pz_bind_rules.Nest.{class_at}
use Rattle.pz_rules.specs.pz_offer.declared.end.End.{End}
use Rattle.pz_rules.specs.pz_offer.PlaceOrder.{Place}
use Rattle.pz_rules.specs.pz_offer.declared.trouble.Trouble.{Trouble}
use Rattle.pz_rules.specs.declared.term.Term as code
use Rattle.pz_rules.specs.Terms.{Term}
use Rattle.pz_rules.specs.Settings as rules
use Rattle.pz_rules.specs.Settings.{Setting, Context, left_by, Home}
use Rattle.pz_rules.specs.Leaving.{residual, swept}
use Rattle.pz_rules.specs.Steps.{Deed, Acts}
use Rattle.pz_rules.specs.View.{term_view}
use Rattle.pz_term_processes.specs.declared.process.Process.{Process}
use Rattle.pz_term_processes.specs.Standing.{process_view, config_of}
use Rattle.pz_rules.specs.Becoming.{Became}
use Rattle.pz_rules.specs.Places.{MayAct}
use Rattle.pz_term_steps.specs.declared.begun.Begun.{Begun}
use Rattle.pz_term_steps.specs.devices.Deeds.{Ability, Leaves, begun_process, IsBegun, seen_at}
use Rattle.pz_term_steps.proofs.AtHome.{stands_at, Ready}

became_is : (x : rules.Process) (t : Term) (old new : Seen) → Became x t old new → ◌≡◌ {A = rules.Process} (record { term = t; state = new.held }) x
became_is x t old new b =
    ap (λ (u : Term). let p : rules.Process = record { term = u; state = new.held } in p) b.term
    ∙ ap (λ (s : Seen). let p : rules.Process = record { term = x.term; state = s.held } in p) b.state

pub process_is : (p q : Process) → p.term ≡ q.term → p.state ≡ q.state → p ≡ q
process_is p q terms states =
    ap (λ (t : code.Term). let r : Process = record { term = t; state = p.state } in r) terms
    ∙ ap (λ (s : Seen). let r : Process = record { term = q.term; state = s } in r) states

-- of what has begun

pub begun_latest : (old new : Seen) (r : Result Begun Trouble) (begun : Begun) → r ≡ Ok begun → IsBegun old new r → IsLatest new begun.point
begun_latest old new r begun is state = ap point_of_first (subst (IsBegun old new) is state)

pub begun_undone : (old new : Seen) (r : Result Begun Trouble) (begun : Begun) → r ≡ Ok begun → IsBegun old new r → undone new ≡ old
begun_undone old new r begun is state = ap (λ (ms : List (ℕ × StateView)). undone_from ms new) (subst (IsBegun old new) is state)

pub begun_trouble : (old new : Seen) (r : Result Begun Trouble) (trouble : Trouble) → r ≡ Err trouble → IsBegun old new r → new ≡ old
begun_trouble old new r trouble is state = subst (IsBegun old new) is state

pub acts_still : (p q : Process) (place : Place) → q.term ≡ p.term → MayAct (term_view p.term) place → MayAct (term_view q.term) place
acts_still p q place same may = subst (λ (t : code.Term). MayAct (term_view t) place) (sym same) may

module _ (h : Home) (a : Context) (does : Deed) (p q : Process) (place : Place) (r : Result Begun Trouble) (leaves : Leaves a does (term_view p.term) place (begun_process h (term_view p.term) place q.state.held r)) where
  pub leaves_trouble : (trouble : Trouble) → r ≡ Err trouble → Leaves a does (term_view p.term) place (Err trouble)
  leaves_trouble trouble is = subst (λ (x : Result Begun Trouble). Leaves a does (term_view p.term) place (begun_process h (term_view p.term) place q.state.held x)) is leaves

  pub leaves_so_far : (begun : Begun) → r ≡ Ok begun → Leaves a does (term_view p.term) place (Ok (swept (residual h 0 (term_view p.term) place (left_by q.state.held (term_view begun.part)))))
  leaves_so_far begun is = subst (λ (x : Result Begun Trouble). Leaves a does (term_view p.term) place (begun_process h (term_view p.term) place q.state.held x)) is leaves

  -- where the process still is as it was when its part had acted
  pub leaves_finished : (begun : Begun) (now new : Process) → r ≡ Ok begun → now ≡ q → q.term ≡ p.term
      → Became (swept (residual h 0 (term_view now.term) place (left_by now.state.held (term_view begun.part)))) (term_view new.term) (kept now.state) new.state
      → Leaves a does (term_view p.term) place (Ok (process_view new))
  leaves_finished begun now new is still same became =
      let at_last : Process → rules.Process = λ x. swept (residual h 0 (term_view x.term) place (left_by x.state.held (term_view begun.part))) in
      let begun_is : ◌≡◌ {A = rules.Process} (process_view new) (at_last now) = became_is (at_last now) (term_view new.term) (kept now.state) new.state became in
      let whole : ◌≡◌ {A = rules.Process} (process_view new) (swept (residual h 0 (term_view p.term) place (left_by q.state.held (term_view begun.part)))) =
      begun_is ∙ ap at_last still ∙ ap (λ (t : code.Term). swept (residual h 0 (term_view t) place (left_by q.state.held (term_view begun.part)))) same in
      subst (λ (x : rules.Process). Leaves a does (term_view p.term) place (Ok x)) (sym whole)
      (leaves_so_far begun is)

-- of an end of the configuration
pub acts_at : (setting : Setting) (clock : ℕ) (ps : List Process) (end : End) (can : Ability) (at : Ready setting clock ps end can) (p : Process) → slice_get ps end.process ≡ Some p
    → (does : Deed) (class : ℕ) → class ≡ class_at setting.model at.home → (place : Place) → place ≡ end.place → (result : Result rules.Process Trouble)
    → Leaves (seen_at setting end.process class clock p.state.held) does (term_view p.term) place result → Acts setting (config_of clock ps) does end result
acts_at setting clock ps end can at p there does class is_class place is_place result leaves =
    let here : Leaves (seen_at setting end.process (class_at setting.model at.home) clock p.state.held) does (term_view p.term) end.place result =
    subst (λ (q : Place). Leaves (seen_at setting end.process (class_at setting.model at.home) clock p.state.held) does (term_view p.term) q result) is_place
    (subst (λ (k : ℕ). Leaves (seen_at setting end.process k clock p.state.held) does (term_view p.term) place result) is_class leaves) in
    record {
      process = process_view p;
      seen = seen_at setting end.process (class_at setting.model at.home) clock p.state.held;
      stands = stands_at setting clock ps end.process p there at.home at.at_home;
      frame = here.frame;
      part = here.part;
      active = here.active;
      pos = here.pos;
      left = here.left;
      acts = here.acts;
      leaves = here.leaves;
    }
