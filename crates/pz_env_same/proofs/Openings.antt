-- What statements open as, and what an action leaves of a term, is the same in two models with the same calls.
use Rattle.std.proofs.Common.{◌≡◌, ℕ, zero, suc, List, [], ◌∷◌, refl, ap, ◌∙◌}
use Rattle.std.specs.List.{AllByRecursion}
use Rattle.pz_rules.specs.pz_syntax.declared.tokens.Pos.{Pos}
use Rattle.pz_rules.specs.pz_syntax.declared.names.Id.{Id}
use Rattle.pz_rules.specs.pz_syntax.Statements.{StatementPart, not_written, otherwise}
use Rattle.pz_rules.specs.pz_syntax.Classes.{ModelTree}
use Rattle.pz_rules.specs.pz_value.declared.value.ClassId.{ClassId}
use Rattle.pz_rules.specs.pz_classes_code.declared.slot.Slot.{Slot}
use Rattle.pz_classes_beginnings.specs.Beginning.{begun, begun_all}
use Rattle.pz_rules.specs.pz_state.States.{StateView}
use Rattle.pz_rules.specs.pz_offer.PlaceOrder.{Place}
use Rattle.pz_rules.specs.declared.limits.Edition.{Edition}
use Rattle.pz_rules.specs.Terms.{Step, Steps, Term, done, leaf, wait, sequence, parallel, select, guarded, frame, abort, idle, handling, child, frame_in}
use Rattle.pz_rules.specs.Settings.{Process, left_by, Home, Context}
use Rattle.pz_rules.specs.Opening.{enter, opened, opened_all, opened_part}
use Rattle.pz_rules.specs.Leaving.{handled, around, residual, swept, not_too_high, settled}
use Rattle.pz_env_same.specs.SameRules.{home_in, SameClass, seen_in, SeesTheSame}
use Rattle.pz_env_same.proofs.Beginnings.{Same, step_same, steps_same}

module _ (m n : ModelTree) (edition : Edition) (class : ℕ) (same : SameClass m n class) where
  abbrev here : Home
  here = home_in m edition class

  abbrev there : Home
  there = home_in n edition class

  each_same : (xs : List Id) → AllByRecursion (Same (enter here) (enter there)) xs
  each_same [] = tt
  each_same (x ∷ xs) = (λ pos s. same.calls edition pos x s, each_same xs)

  pub opened_same : (t : Step) (s : StateView) → opened here t s ≡ opened there t s
  opened_same t s = step_same (enter here) (enter there) t (each_same (begun t)) s

  pub opened_all_same : (ts : Steps) (s : StateView) → opened_all here ts s ≡ opened_all there ts s
  opened_all_same ts s = steps_same (enter here) (enter there) ts (each_same (begun_all ts)) s

  pub opened_part_same : (other : StatementPart Slot ClassId ℕ) (s : StateView) → opened_part here other s ≡ opened_part there other s
  opened_part_same not_written s = refl
  opened_part_same (otherwise ts) s = opened_all_same ts s

  -- What is around a part that has acted

  handled_same : (s : StateView) (t : Term) (again : Step) (x : Term) → handled here s t again x ≡ handled there s t again x
  handled_same s t again done = ap (λ (x : Process). left_by x.state (idle t x.term again)) (opened_same again s)
  handled_same s t again (leaf r) = refl
  handled_same s t again (wait left at) = refl
  handled_same s t again (sequence q more) = refl
  handled_same s t again (parallel qs) = refl
  handled_same s t again (select qs) = refl
  handled_same s t again (guarded test at q) = refl
  handled_same s t again (frame number inputs results q) = refl
  handled_same s t again (abort q v) = refl
  handled_same s t again (idle q v once) = refl
  handled_same s t again (handling q v once) = refl

  behind_same : (f : ℕ) (s : StateView) (t : Term) (rest : Steps) (i : ℕ) (x : Term) → around here f s (sequence t rest) i x ≡ around there f s (sequence t rest) i x
  behind_same f s t rest i done = opened_all_same rest s
  behind_same f s t rest i (leaf r) = refl
  behind_same f s t rest i (wait left at) = refl
  behind_same f s t rest i (sequence q more) = refl
  behind_same f s t rest i (parallel qs) = refl
  behind_same f s t rest i (select qs) = refl
  behind_same f s t rest i (guarded test at q) = refl
  behind_same f s t rest i (frame number inputs results q) = refl
  behind_same f s t rest i (abort q v) = refl
  behind_same f s t rest i (idle q v once) = refl
  behind_same f s t rest i (handling q v once) = refl

  around_same : (f : ℕ) (s : StateView) (t : Term) (i : ℕ) (x : Term) → around here f s t i x ≡ around there f s t i x
  around_same f s (sequence t rest) i x = behind_same f s t rest i x
  around_same f s (idle t u again) zero x = refl
  around_same f s (idle t u again) (suc i) x = handled_same s t again x
  around_same f s (handling t u again) i x = handled_same s t again x
  around_same f s (abort t u) zero x = refl
  around_same f s (abort t u) (suc i) x = refl
  around_same f s (parallel ts) i x = refl
  around_same f s (select ts) i x = refl
  around_same f s (guarded test at t) i x = refl
  around_same f s done i x = refl
  around_same f s (leaf r) i x = refl
  around_same f s (wait left at) i x = refl
  around_same f s (frame k ins outs t) i done = refl
  around_same f s (frame k ins outs t) i (leaf r) = refl
  around_same f s (frame k ins outs t) i (wait left at) = refl
  around_same f s (frame k ins outs t) i (sequence q more) = refl
  around_same f s (frame k ins outs t) i (parallel qs) = refl
  around_same f s (frame k ins outs t) i (select qs) = refl
  around_same f s (frame k ins outs t) i (guarded test at q) = refl
  around_same f s (frame k ins outs t) i (frame number inputs results q) = refl
  around_same f s (frame k ins outs t) i (abort q v) = refl
  around_same f s (frame k ins outs t) i (idle q v once) = refl
  around_same f s (frame k ins outs t) i (handling q v once) = refl

  residual_same : (f : ℕ) (t : Term) (place : Place) (x : Process) → residual here f t place x ≡ residual there f t place x
  residual_same f t [] x = refl
  residual_same f t (i ∷ place) x =
      let inner = residual there (frame_in t f) (child t i) place x in
      ap (λ (p : Process). around here f p.state t i p.term) (residual_same (frame_in t f) (child t i) place x)
      ∙ around_same f inner.state t i inner.term

pub settled_same : (n : ModelTree) (a : Context) (at : Pos) (whole : Term) (place : Place) (x : Process) → SeesTheSame n a
    → settled a at whole place x ≡ settled (seen_in n a) at whole place x
settled_same n a at whole place x same =
    ap (λ (p : Process). not_too_high a at (swept p)) (residual_same a.setting.model n a.setting.limits.edition a.class same.statements 0 whole place x)
