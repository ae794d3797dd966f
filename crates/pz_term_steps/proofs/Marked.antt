-- Deeds in a marked state.
use Rattle.std.proofs.Common.{◌≡◌, ℕ, Result, Ok, Err, refl, sym, subst, ap, ◌∙◌}
use Rattle.std.specs.Prelude.{MatchResult}
use Rattle.std.proofs.Math.Logic.{∥∥₁_map}
use Rattle.pz_classes_code.specs.pz_syntax.declared.tokens.Pos.{Pos}
use Rattle.pz_classes_code.specs.pz_syntax.Classes.{ModelTree}
use Rattle.pz_classes_code.specs.pz_value.declared.value.ClassId.{ClassId}
use Rattle.pz_rules.specs.pz_state.States.{StateView}
use Rattle.pz_rules.specs.pz_state.Marks.{Seen, marked, undone}
use Rattle.pz_rules.specs.pz_offer.PlaceOrder.{Place}
use Rattle.pz_rules.specs.pz_offer.declared.trouble.Trouble.{Trouble}
use Rattle.pz_rules.specs.Terms.{Term}
use Rattle.pz_rules.specs.Settings.{Process, Context, left_by, Home, home_of}
use Rattle.pz_rules.specs.Leaving.{residual, swept, settled}
use Rattle.pz_rules.specs.Meanings.{and_then}
use Rattle.pz_rules.specs.Steps.{Deed}
use Rattle.pz_rules.specs.View.{term_view}
use Rattle.pz_rules.specs.devices.Ends.{ActivePartsFit}
use Rattle.pz_term_processes.specs.pz_eval.Known.{AreKnown}
use Rattle.pz_term_processes.specs.pz_part_queries.declared.standpoint.Standpoint.{Standpoint}
use Rattle.pz_term_processes.specs.pz_part_queries.Standpoints.{Knows, seen_from}
use Rattle.pz_rules.specs.Places.{MayAct}
use Rattle.pz_term_residual.specs.Laws.{ActivePartsMayAct}
use Rattle.pz_term_processes.specs.pz_part_queries.Parts.{IsPartAt}
use Rattle.pz_term_processes.specs.pz_part_actions.Becoming.{Becomes}
use Rattle.pz_term_processes.specs.pz_part_actions.Becoming as becoming
use Rattle.pz_term_processes.specs.pz_part_actions.Fitting.{FitsHere}
use Rattle.pz_term_steps.specs.declared.begun.Begun.{Begun}
use Rattle.pz_term_processes.specs.pz_part_actions.StatementPlaces.{IsFrom}
use Rattle.pz_term_steps.specs.devices.Deeds.{Ability, CanDo, Leaves, settled_home, begun_process}
use Rattle.pz_term_processes.proofs.pz_part_actions_proofs.Statements.{one_place}
use Rattle.pz_term_processes.proofs.pz_part_actions_proofs.Higher.{answer_settled}

pub known_is : (m : ModelTree) (here : Standpoint) → Knows m here → AreKnown here.classes.now
known_is m here known = ∥∥₁_map known (λ k. (m, k))

-- of a part that can do this
module _ (can : Ability) (a : Context) (t : Term) (place : Place) (there : CanDo can a t place) where
  pub may_act : ActivePartsMayAct → MayAct t place
  may_act law = law a t place there.frame there.part there.active

  module _ (f : ℕ) (y : Term) (found : IsPartAt 0 t place f y) where
    pub same_part : (f ≡ there.frame) × (y ≡ there.part)
    same_part = found a there.frame there.part there.active

    -- what holds of all that can do it, with the places of their statements
    pub part_is : (P : Pos → Term → Type 0) → ((g : ℕ) (x : Term) (pos : Pos) → can a g x pos → P pos x) → P there.it_holds.0 y
    part_is P holds = subst (P there.it_holds.0) (sym same_part.1) (holds there.frame there.part there.it_holds.0 there.it_holds.1)

    pub place_is : ((g : ℕ) (x : Term) (pos : Pos) → can a g x pos → IsFrom pos x) → (pos : Pos) × IsFrom pos y
    place_is holds = (there.it_holds.0, part_is IsFrom holds)

    -- the parts of what fits fit
    pub part_fits : ActivePartsFit → (here : Standpoint) (class : ClassId) → ∥ FitsHere here class t ∥₁ → ∥ FitsHere here class y ∥₁
    part_fits law here class whole =
        subst (λ (z : Term). ∥ FitsHere here class z ∥₁) (sym same_part.1) (∥∥₁_map whole (λ w.
        let fits = law w.model class.0 w.locals a 0 t place there.frame there.part there.active w.fits in
        record { model = w.model; knows = w.knows; bodies = w.bodies; belongs = w.belongs; locals = fits.0; fits = fits.1 }))

-- in an equal state, of an equal part in an equal frame
moved : (P : Context → ℕ → Term → Type 0) (m : ModelTree) (here : Standpoint) (class : ℕ) (s s' : StateView) (f g : ℕ) (y x : Term)
    → s ≡ s' → f ≡ g → y ≡ x → P (seen_from m here class s) f y → P (seen_from m here class s') g x
moved P m here class s s' f g y x states frames parts holds =
    subst (λ (z : Term). P (seen_from m here class s') g z) parts
    (subst (λ (h : ℕ). P (seen_from m here class s') h y) frames
    (subst (λ (u : StateView). P (seen_from m here class u) f y) states holds))

begun_held : (h : Home) (t : Term) (place : Place) (s2 s3 : Seen) (point : ℕ) (r : Result Begun Trouble) → MatchResult r (λ b. (s3 ≡ s2) × (b.point ≡ point)) (λ t. s3 ≡ undone s2)
    → begun_process h t place s3.held r ≡ begun_process h t place s2.held r
begun_held h t place s2 s3 point (Ok b) held = ap (λ (s : Seen). let r : Result Process Trouble = Ok (swept (residual h 0 t place (left_by s.held (term_view b.part)))) in r) held.0
begun_held h t place s2 s3 point (Err e) held = refl

-- what it becomes by its deed is answered so
abbrev pub IsAnswered : Ability → Deed → Context → ℕ → Term → Result Process Trouble → Type 0
IsAnswered can does a f y answer = (pos : Pos) → can a f y pos → (left : Result Process Trouble) × does a f y pos left × Becomes a pos left answer

pub as_it_is : (can : Ability) (does : Deed) (a : Context) (f : ℕ) (y : Term) (left : Result Process Trouble) → ((pos : Pos) → can a f y pos → does a f y pos left) → IsAnswered can does a f y left
as_it_is can does a f y left acts pos it = (left, acts pos it, becoming.is left)

-- what a part leaves of its process, done in the marked state
pub leaves_begun : (can : Ability) (does : Deed) → ((a : Context) (g : ℕ) (x : Term) (pos : Pos) → can a g x pos → IsFrom pos x)
    → (m : ModelTree) (here : Standpoint) (class : ℕ) (t : Term) (place : Place) (s0 s1 s2 s3 : Seen) (point f : ℕ) (y : Term) (p : Pos) (answer : Result Process Trouble) (r : Result Begun Trouble)
    → (h : Home) → home_of (seen_from m here class s0.held) ≡ h → s1 ≡ marked s0 point → IsPartAt 0 t place f y → IsFrom p y
    → ActivePartsMayAct → IsAnswered can does (seen_from m here class s1.held) f y answer
    → begun_process h t place s2.held r ≡ and_then answer (settled_home h (seen_from m here class s0.held) p t place)
    → MatchResult r (λ b. (s3 ≡ s2) × (b.point ≡ point)) (λ t. s3 ≡ undone s2)
    → CanDo can (seen_from m here class s0.held) t place
    → Leaves (seen_from m here class s0.held) does t place (begun_process h t place s3.held r)
leaves_begun can does stands m here class t place s0 s1 s2 s3 point f y p answer r h home is found from law acts held state there =
    let same = same_part can (seen_from m here class s0.held) t place there f y found in
    let pos : Pos = there.it_holds.0 in
    let before : s1.held ≡ s0.held = ap (λ (s : Seen). s.held) is in
    let acted = acts pos (moved (λ a g x. can a g x pos) m here class s0.held s1.held there.frame f there.part y (sym before) (sym same.0) (sym same.1) there.it_holds.1) in
    record {
      frame = there.frame;
      part = there.part;
      active = there.active;
      pos = pos;
      left = acted.0;
      acts = moved (λ a g x. does a g x pos acted.0) m here class s1.held s0.held f there.frame y there.part before same.0 same.1 acted.1;
      leaves =
          begun_held h t place s2 s3 point r state ∙ held
          ∙ ap (λ (k : Home). and_then answer (settled_home k (seen_from m here class s0.held) p t place)) (sym home)
          ∙ ap (λ (q : Pos). and_then answer (settled (seen_from m here class s0.held) q t place))
          (one_place y p pos from (part_is can (seen_from m here class s0.held) t place there f y found IsFrom (stands (seen_from m here class s0.held))))
          ∙ answer_settled (seen_from m here class s1.held) pos t place (may_act can (seen_from m here class s0.held) t place there law) acted.0 answer acted.2;
    }
