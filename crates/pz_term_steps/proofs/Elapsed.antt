-- What the code makes of all processes when time passes.
use Rattle.std.proofs.Common.{◌≡◌, ◌≢◌, ℕ, ◌+◌, ◌<◌, ◌≤◌, List, [], Some, map, set, length, refl, sym, subst, ap, ◌∙◌, inl, inr, arith}
use Rattle.std.specs.Prelude.{◌⊎◌, slice_get}
use Rattle.std.proofs.Math.Logic.{∥∥₁_map}
use Rattle.std.proofs.lemmas.Bool.{cases_lt}
use Rattle.std.proofs.lemmas.List.{length-map}
use Rattle.std.proofs.lemmas.Option.{slice_get_within}
use Rattle.pz_rules.specs.pz_classes_rules.Soundness.{IsSound}
use Rattle.pz_rules.specs.pz_state.Marks.{Seen}
use Rattle.pz_rules.specs.pz_bind_rules.Nest.{class_at}
use Rattle.pz_rules.specs.declared.action.Action.{Action}
use Rattle.pz_rules.specs.declared.action.Action.TheVariants.{Internal}
use Rattle.pz_rules.specs.declared.action.Kind.TheVariants.{Skip}
use Rattle.pz_rules.specs.Terms.{Term}
use Rattle.pz_rules.specs.Settings as rules
use Rattle.pz_rules.specs.Settings.{Setting, Context}
use Rattle.pz_rules.specs.Delays.{Passes}
use Rattle.pz_rules.specs.Configurations.{Config, Stands}
use Rattle.pz_rules.specs.Steps.{PassesTo}
use Rattle.pz_rules.specs.Laws.{StaysWhole, StaysFit, LowPasses}
use Rattle.pz_rules.specs.View.{term_view}
use Rattle.pz_rules.specs.devices.Computed.{OnePassingIsComputed}
use Rattle.pz_rules.specs.devices.Passing.{passed}
use Rattle.pz_term_processes.specs.declared.process.Process.{Process}
use Rattle.pz_term_processes.specs.Standing.{process_view, config_of, AreProcesses}
use Rattle.pz_term_steps.specs.devices.Deeds.{seen_at}
use Rattle.pz_term_steps.specs.devices.Elapsing.{HasPassed, PassedAt}
use Rattle.pz_term_steps.proofs.Lists.{some_is, get_same, get_other, mapped_there, image_there}
use Rattle.pz_term_steps.proofs.AtHome.{seen_is}

module _ (setting : Setting) (clock time : ℕ) where
  pub has_passed : (i : ℕ) (old new : Process)
      → ((class : ℕ) → term_view new.term ≡ passed (seen_at setting i class clock old.state.held) time 0 (term_view old.term)) → new.state ≡ old.state
      → HasPassed setting clock time i old new
  has_passed i old new terms states class =
      ap (λ (t : Term). let p : rules.Process = record { term = t; state = new.state.held } in p) (terms class)
      ∙ ap (λ (s : Seen). let p : rules.Process = record { term = passed (seen_at setting i class clock old.state.held) time 0 (term_view old.term); state = s.held } in p) states

  -- one more process
  module _ (first ps : List Process) (n : ℕ) (old new : Process) (within : n < length ps) (stands : slice_get ps n ≡ Some old)
      (left : (i : ℕ) → n ≤ i → slice_get ps i ≡ slice_get first i) (passes : HasPassed setting clock time n old new) where
    pub passed_more : ((i : ℕ) (p : Process) → i < n → slice_get first i ≡ Some p → PassedAt setting clock time i p ps)
        → (i : ℕ) (p : Process) → i < n + 1 → slice_get first i ≡ Some p → PassedAt setting clock time i p (set ps n new)
    passed_more so_far i p below there = by_case (cases_lt i n)
      where
        by_case : (i < n) ⊎ (n ≤ i) → PassedAt setting clock time i p (set ps n new)
        by_case (inl earlier) =
            let before = so_far i p earlier there in
            let apart : n ≢ i = omega arith in
            record { process = before.process; stands = get_other ps n i new apart ∙ before.stands; passed = before.passed }
        by_case (inr later) =
            let same : n ≡ i = omega arith in
            let is_old : old ≡ p = some_is old p (sym stands ∙ left n (omega arith) ∙ ap (slice_get first) same ∙ there) in
            record {
              process = new;
              stands = ap (slice_get (set ps n new)) (sym same) ∙ get_same ps n new within;
              passed = subst (λ (q : Process). HasPassed setting clock time i q new) is_old (subst (λ (k : ℕ). HasPassed setting clock time k old new) same passes);
            }

    pub left_more : (i : ℕ) → n + 1 ≤ i → slice_get (set ps n new) i ≡ slice_get first i
    left_more i later = let apart : n ≢ i = omega arith in get_other ps n i new apart ∙ left i (omega arith)

  -- all of them
  pub all_passed : OnePassingIsComputed → (old new : List Process) (count : ℕ) (next : Config) → PassesTo setting (config_of clock old) time next
      → count ≡ length old → length new ≡ length old → ((i : ℕ) (p : Process) → i < count → slice_get old i ≡ Some p → PassedAt setting clock time i p new)
      → PassesTo setting (config_of clock old) time (config_of (clock + time) new)
  all_passed only old new count next passes all same passed_each = record {
    clock = refl;
    all = length-map new process_view ∙ same ∙ sym (length-map old process_view);
    each = each;
  }
    where
      each : (i : ℕ) (p : rules.Process) (a : Context) → Stands setting (config_of clock old) i p a
          → (x : Term) × Passes a time 0 p.term x × (slice_get (map process_view new) i ≡ Some (record { term = x; state = p.state }))
      each i p a stands =
          let it = passes.each i p a stands in
          let home = mapped_there process_view old i p stands.is_here in
          let there : i < length old = slice_get_within old i home.0 home.1 in
          let here = passed_each i home.0 (omega (arith, there, all)) home.1 in
          let class : ℕ = class_at setting.model stands.place in
          let seen = seen_is setting clock old i home.0 home.1 p a stands in
          let only_this : it.0 ≡ passed a time 0 p.term = only a time 0 p.term it.0 it.1 in (
            it.0,
            it.1,
            image_there process_view new i here.process here.stands
                ∙ ap (λ (q : rules.Process). Some q) (here.passed class
                ∙ ap (λ (b : Context). let q : rules.Process = record { term = passed b time 0 (term_view home.0.term); state = home.0.state.held } in q) (sym seen)
                ∙ ap (λ (q : rules.Process). let r : rules.Process = record { term = passed a time 0 q.term; state = q.state } in r) home.2
                ∙ ap (λ (t : Term). let q : rules.Process = record { term = t; state = p.state } in q) (sym only_this)),
          )

-- any action: what is said of a passing does not depend on it
some_action : Action
some_action = Internal (record { process = 0; place = [] }) Skip (record { line = 0; column = 0 })

-- they are still the processes of the model
pub passed_processes : (setting : Setting) (clock time : ℕ) (old new : List Process) → StaysWhole → StaysFit → LowPasses → IsSound setting.model → ∥ AreProcesses setting clock old ∥₁
    → PassesTo setting (config_of clock old) time (config_of (clock + time) new) → ∥ AreProcesses setting (clock + time) new ∥₁
passed_processes setting clock time old new whole fit low sound are passes = ∥∥₁_map are (λ k. record {
  whole = (whole setting (config_of clock old) (config_of (clock + time) new) some_action time k.whole).1 passes;
  fit = (fit setting (config_of clock old) (config_of (clock + time) new) some_action time sound k.whole k.fit).1 passes;
  low = low setting (config_of clock old) (config_of (clock + time) new) time k.whole k.low passes;
})
