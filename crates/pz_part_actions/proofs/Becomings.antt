-- What has become of a process, as a whole, and at home.
use Rattle.std.proofs.Common.{◌≡◌, List, [], ◌∷◌, sym, ap, ◌∙◌}
use Rattle.pz_classes_code.specs.pz_syntax.Statements.{no_statements, then}
use Rattle.pz_part_queries.specs.pz_classes.CheckedView.{checked_model}
use Rattle.pz_classes_code.specs.declared.step.Step as code
use Rattle.pz_classes_code.specs.StepView as step
use Rattle.pz_rules.specs.pz_state.States.{StateView}
use Rattle.pz_rules.specs.pz_state.Marks.{Seen}
use Rattle.pz_rules.specs.declared.limits.Edition.{Edition}
use Rattle.pz_rules.specs.declared.term.Term.{Term as Part}
use Rattle.pz_rules.specs.declared.term.Term.TheVariants as form
use Rattle.pz_rules.specs.Terms.{Steps, Term, sequence}
use Rattle.pz_rules.specs.Settings.{Process, left_by, home_of}
use Rattle.pz_rules.specs.Settings as rules
use Rattle.pz_rules.specs.Opening.{opened_all}
use Rattle.pz_rules.specs.InternalActions.{before_loop}
use Rattle.pz_rules.specs.View.{term_view}
use Rattle.pz_rules.specs.Becoming.{Became}
use Rattle.pz_term_around.specs.pz_part_opening.declared.home.Home.{Home}
use Rattle.pz_term_around.specs.pz_part_opening.Homes.{home_view}
use Rattle.pz_part_queries.specs.declared.standpoint.Standpoint.{Standpoint}
use Rattle.pz_part_actions.specs.devices.Standing.{seen_there}
use Rattle.pz_part_actions.proofs.Forms.{shows_Seq}

pub became_left : (p : Process) (t : Term) (old new : Seen) → Became p t old new → p ≡ left_by new.held t
became_left p t old new became = ap (λ (x : Term). left_by p.state x) (sym became.term) ∙ ap (λ (z : Seen). left_by z.held t) (sym became.state)

-- where the edition is that of the home
pub home_is : (here : Standpoint) (home : Home) (s : StateView) → here.limits.edition ≡ home.edition → home_of (seen_there here home s) ≡ home_view home
home_is here home s edition = ap (λ (e : Edition). let h : rules.Home = record { model = checked_model home.checked.now; edition = e; class = home.class.0 } in h) edition

-- the body of a loop, and then the loop
pub goes_round : (h : rules.Home) (ts : Steps) (again : code.Step) (rest : List code.Step) (first boxed : Part) (old new : Seen) → rest ≡ again ∷ [] → boxed ≡ first
    → Became (opened_all h ts old.held) (term_view first) old new → Became (before_loop (step.view again) (opened_all h ts old.held)) (term_view (form.Seq boxed rest)) old new
goes_round h ts again rest first boxed old new one same became =
    let loop : Steps = (then) (step.view again) no_statements in
    record {
      term = ap (λ (l : List code.Step). term_view (form.Seq boxed l)) one ∙ shows_Seq boxed (again ∷ []) ∙ ap (λ (x : Part). sequence (term_view x) loop) same ∙ ap (λ (x : Term). sequence x loop) became.term;
      state = became.state;
    }
