-- What is offered of a configuration, of the code's processes that stand there.
use Rattle.std.proofs.Common.{◌≡◌, ℕ, ◌<◌, List, Result, Some, length, map, refl, sym, subst, ap, ◌∙◌}
use Rattle.std.specs.Prelude.{slice_get}
use Rattle.std.specs.Coded.{le_prop}
use Rattle.std.proofs.Math.Logic.{∥∥₁_elim, ∥∥₁_map₂, ∥∥₁_prop}
use Rattle.std.proofs.Math.Nat.{ℕ_set}
use Rattle.std.proofs.lemmas.List.{length-map}
use Rattle.std.proofs.lemmas.Option.{slice_get_within}
use Rattle.pz_classes_code.specs.pz_syntax.declared.tokens.Pos.{Pos}
use Rattle.pz_classes_code.specs.pz_syntax.Classes.{ModelTree}
use Rattle.pz_classes_code.specs.pz_value.declared.value.ClassId.{ClassId}
use Rattle.pz_bind.specs.pz_classes.CheckedView.{checked_model}
use Rattle.pz_bind.specs.pz_classes.declared.classes.Classes.{Classes}
use Rattle.pz_rules.specs.pz_classes_rules.Soundness.{IsSound}
use Rattle.pz_rules.specs.pz_classes_rules.SoundBodies.{SoundBodiesFit}
use Rattle.pz_bind.specs.pz_classes.Tables.{HasClass}
use Rattle.pz_bind.specs.pz_classes.devices.Rows.{AreClasses}
use Rattle.pz_bind_levels.specs.Places as levels
use Rattle.pz_bind.specs.declared.net.Net.{Net}
use Rattle.pz_rules.specs.pz_bind_rules.Nest.{processes, class_at}
use Rattle.pz_bind.specs.NetView.{HasProcess}
use Rattle.pz_bind.specs.devices.Nets.{IsNet, node_at}
use Rattle.pz_rules.specs.pz_offer.declared.end.End.{End}
use Rattle.pz_rules.specs.pz_offer.PlaceOrder.{Place}
use Rattle.pz_rules.specs.pz_offer.declared.trouble.Trouble.{Trouble}
use Rattle.pz_rules.specs.pz_state.States.{StateView}
use Rattle.pz_rules.specs.declared.limits.Limits.{Limits}
use Rattle.pz_rules.specs.Terms.{Term}
use Rattle.pz_rules.specs.Settings as rules
use Rattle.pz_rules.specs.Settings.{Setting, Context}
use Rattle.pz_rules.specs.Configurations.{Stands}
use Rattle.pz_rules.specs.Fitting.{TermFits}
use Rattle.pz_rules.specs.Starting.{home_at}
use Rattle.pz_rules.specs.Offers.{PartAt}
use Rattle.pz_rules.specs.Active.{IsActive}
use Rattle.pz_rules.specs.Steps.{Deed}
use Rattle.pz_rules.specs.View.{term_view}
use Rattle.pz_term_processes.specs.declared.process.Process.{Process}
use Rattle.pz_term_processes.specs.Standing.{setting_of, process_view, config_of, AreProcesses}
use Rattle.pz_term_processes.specs.pz_part_queries.declared.standpoint.Standpoint.{Standpoint}
use Rattle.pz_term_processes.specs.pz_part_queries.Standpoints.{Knows, seen_from}
use Rattle.pz_term_processes.specs.pz_part_actions.Fitting.{FitsHere}
use Rattle.pz_term_processes.specs.pz_part_actions.Homes.{seen_home}
use Rattle.pz_term_processes.specs.pz_part_opening.declared.home.Home.{Home}
use Rattle.pz_term_processes.specs.pz_part_opening.Homes.{home_view}
use Rattle.pz_term_steps.specs.devices.Deeds.{Ability, CanDo, Leaves, seen_at}
use Rattle.pz_term_steps.proofs.Lists.{some_is, image_there}

-- the net and the processes of a model

pub net_has : (m : ModelTree) (net : Net) (i : ℕ) (home : levels.Address) → ∥ IsNet m net ∥₁ → slice_get (processes m) i ≡ Some home → HasProcess net i
net_has m net i home is there = ∥∥₁_elim is le_prop (λ known.
    let count : length net.nodes ≡ length (processes m) = ap (λ xs. length xs) known.nodes ∙ length-map (processes m) (node_at m) in
    subst (λ (n : ℕ). i < n) (sym count) (slice_get_within (processes m) i home there))

pub count_is : (m : ModelTree) (limits : Limits) (clock : ℕ) (net : Net) (ps : List Process) (count : ℕ) → ∥ IsNet m net ∥₁ → ∥ AreProcesses (setting_of m limits) clock ps ∥₁
    → ((n : ModelTree) → IsNet n net → count ≡ length (processes n)) → count ≡ length ps
count_is m limits clock net ps count is are counted =
    ∥∥₁_elim is (ℕ_set count (length ps)) (λ known.
    ∥∥₁_elim are (ℕ_set count (length ps)) (λ all. counted m known ∙ sym all.whole ∙ length-map ps process_view))

pub term_fits : (m : ModelTree) (limits : Limits) (clock : ℕ) (net : Net) (here : Standpoint) (ps : List Process) (i : ℕ) (home : levels.Address) (p : Process) (class : ClassId)
    → SoundBodiesFit → IsSound m → ∥ IsNet m net ∥₁ → ∥ AreProcesses (setting_of m limits) clock ps ∥₁ → Knows m here
    → ((n : ModelTree) (table : Classes) → IsNet n net → AreClasses n table → HasClass table class)
    → slice_get (processes m) i ≡ Some home → slice_get ps i ≡ Some p → class.0 ≡ class_at m home
    → ∥ FitsHere here class (term_view p.term) ∥₁
term_fits m limits clock net here ps i home p class law sound is are known belongs at_home there is_class =
    ∥∥₁_elim is ∥∥₁_prop (λ n. ∥∥₁_map₂ are known (λ all k. record {
      model = m;
      knows = known;
      bodies = law m sound;
      belongs = belongs m here.classes.now n k;
      locals = 0;
      fits = subst (λ (c : ℕ). TermFits m c 0 (term_view p.term)) (sym is_class) (all.fit i home (process_view p) at_home (image_there process_view ps i p there));
    }))

-- an end of a configuration
module _ (setting : Setting) (clock : ℕ) (ps : List Process) (i : ℕ) where
  end_within : (q : rules.Process) (a : Context) → Stands setting (config_of clock ps) i q a → i < length ps
  end_within q a x = subst (λ (n : ℕ). i < n) (length-map ps process_view) (slice_get_within (map process_view ps) i q x.is_here)

  module _ (p : Process) (there : slice_get ps i ≡ Some p) where
    pub stands_at : (home : levels.Address) → slice_get (processes setting.model) i ≡ Some home
        → Stands setting (config_of clock ps) i (process_view p) (seen_at setting i (class_at setting.model home) clock p.state.held)
    stands_at home at_home = record {
      place = home;
      is_process = at_home;
      is_here = image_there process_view ps i p there;
      seen = refl;
    }

    same_process : (q : rules.Process) (a : Context) → Stands setting (config_of clock ps) i q a → q ≡ process_view p
    same_process q a x = some_is q (process_view p) (sym x.is_here ∙ image_there process_view ps i p there)

    pub seen_is : (q : rules.Process) (a : Context) (x : Stands setting (config_of clock ps) i q a) → a ≡ seen_at setting i (class_at setting.model x.place) clock p.state.held
    seen_is q a x = x.seen ∙ ap (λ (r : rules.Process). seen_at setting i (class_at setting.model x.place) clock r.state) (same_process q a x)

-- An end at which a part can do this, whatever process of the code stands there, seen from its standpoint.
pub record Ready (setting : Setting) (clock : ℕ) (ps : List Process) (end : End) (can : Ability) : Type 0 where
  pub home : levels.Address
  pub at_home : slice_get (processes setting.model) end.process ≡ Some home
  pub within : end.process < length ps
  pub able : (p : Process) → slice_get ps end.process ≡ Some p → (class : ℕ) → class ≡ class_at setting.model home → (place : Place) → place ≡ end.place
      → CanDo can (seen_at setting end.process class clock p.state.held) (term_view p.term) place

pub ready : (setting : Setting) (clock : ℕ) (ps : List Process) (end : End) (can : Ability) (a : Context) (f : ℕ) (x : Term) (pos : Pos)
    → PartAt setting (config_of clock ps) end a f x → can a f x pos → Ready setting clock ps end can
ready setting clock ps end can a f x pos part it = record {
  home = part.stands.place;
  at_home = part.stands.is_process;
  within = end_within setting clock ps end.process part.process a part.stands;
  able = able;
}
  where
    able : (p : Process) → slice_get ps end.process ≡ Some p → (class : ℕ) → class ≡ class_at setting.model part.stands.place → (place : Place) → place ≡ end.place
        → CanDo can (seen_at setting end.process class clock p.state.held) (term_view p.term) place
    able p there class is_class place is_place =
        let seen = seen_is setting clock ps end.process p there part.process a part.stands in
        let active : IsActive a (term_view p.term) end.place f x =
        subst (λ (q : rules.Process). IsActive a q.term end.place f x) (same_process setting clock ps end.process p there part.process a part.stands) part.active in
        let here : CanDo can a (term_view p.term) end.place = record { frame = f; part = x; active = active; it_holds = (pos, it) } in
        subst (λ (q : Place). CanDo can (seen_at setting end.process class clock p.state.held) (term_view p.term) q) (sym is_place)
        (subst (λ (k : ℕ). CanDo can (seen_at setting end.process k clock p.state.held) (term_view p.term) end.place) (sym is_class)
        (subst (λ (b : Context). CanDo can b (term_view p.term) end.place) seen here))

-- at home there, of the code's home
module _ (m : ModelTree) (limits : Limits) (here : Standpoint) (home : Home) (place : levels.Address) (is : home_view home ≡ home_at (setting_of m limits) place) (same_limits : here.limits ≡ limits) where
  seen_there : (s : StateView) → seen_home here home s ≡ seen_from m here (class_at m place) s
  seen_there s =
      ap (λ (h : rules.Home). seen_from h.model (record here { limits = record here.limits { edition = h.edition } }) h.class s) is
      ∙ ap (λ (l : Limits). seen_from m (record here { limits = record l { edition = limits.edition } }) (class_at m place) s) same_limits
      ∙ ap (λ (l : Limits). seen_from m (record here { limits = l }) (class_at m place) s) (sym same_limits)

  pub class_there : home.class.0 ≡ class_at m place
  class_there = ap (λ (h : rules.Home). h.class) is

  pub knows_there : Knows m here → Knows (checked_model home.checked.now) here
  knows_there known = subst (λ (n : ModelTree). Knows n here) (sym (ap (λ (h : rules.Home). h.model) is)) known

  pub can_there : (can : Ability) (s : StateView) (t : Term) (at : Place) → CanDo can (seen_from m here (class_at m place) s) t at → CanDo can (seen_home here home s) t at
  can_there can s t at = subst (λ (a : Context). CanDo can a t at) (sym (seen_there s))

  pub leaves_there : (does : Deed) (s : StateView) (t : Term) (at : Place) (left : Result rules.Process Trouble) → Leaves (seen_home here home s) does t at left → Leaves (seen_from m here (class_at m place) s) does t at left
  leaves_there does s t at left = subst (λ (a : Context). Leaves a does t at left) (seen_there s)
