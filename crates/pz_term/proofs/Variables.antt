-- What a simulator shows of a variable.
use Rattle.std.proofs.Common.{◌≡◌, ◌<◌, ◌∙◌, ◌⊎◌, inl, inr, ℕ, List, [], ◌∷◌, length, Some, Result, Ok, Err, sym, ap, subst, arith}
use Rattle.std.specs.Prelude.{slice_get, IfOk, OnErr, ⊤}
use Rattle.std.specs.declared.alloc.AllocError.{AllocError}
use Rattle.std.specs.Option.{option_map}
use Rattle.std.proofs.Math.Logic.{∥∥₁_elim}
use Rattle.std.proofs.Math.Nat.{ℕ_set}
use Rattle.std.proofs.lemmas.List.{length-map}
use Rattle.std.proofs.lemmas.Option.{slice_get-map}
use Rattle.pz_rules.specs.pz_state.States.{variable}
use Rattle.pz_rules.specs.pz_copy.Parcels.{ParcelView}
use Rattle.pz_rules.specs.pz_copy.Packing.{IsParcelOf}
use Rattle.pz_rules.specs.pz_bind_rules.Nest.{processes}
use Rattle.pz_bind.specs.NetView.{HasProcess}
use Rattle.pz_bind.specs.devices.Nets.{IsNet, node_at}
use Rattle.pz_bind.specs.declared.net.Net.{Net}
use Rattle.pz_rules.specs.Settings.{Setting}
use Rattle.pz_rules.specs.devices.Start.{start_of}
use Rattle.pz_term_processes.specs.declared.process.Process.{Process}
use Rattle.pz_term_processes.specs.Standing.{process_view, config_of, AreProcesses}
use Rattle.pz_term.specs.declared.standing.Standing.{Standing}
use Rattle.pz_term.specs.declared.standing.Standing.TheVariants as standing
use Rattle.pz_term_enabled.specs.declared.looking.Outlook.{Outlook}
use Rattle.pz_rules.specs.pz_offer.declared.trouble.Trouble.{Trouble}
use Rattle.pz_term.specs.Plains.{simulation_at}
use Rattle.pz_term_simulator.specs.Shown.{HoldsValue, IsShown, CanShow}
use Rattle.pz_term.specs.devices.Holding.{Holds}

-- its processes are built: it is neither broken nor too high
abbrev pub IsBuilt : Standing → Type 0
IsBuilt s = ((outlook : Outlook) × (s ≡ standing.Whole outlook)) ⊎ ((trouble : Trouble) × (s ≡ standing.Stopped trouble))

module _ (setting : Setting) (clock : ℕ) (ps : List Process) (s : Standing) (i : ℕ) (can : CanShow (simulation_at setting clock ps s) i) where
  pub index_built : IsBuilt s → ∥ Holds setting clock ps s ∥₁ → i < length ps
  index_built (inl x) h =
      let within : i < length (processes setting.model) = subst (λ (y : Standing). CanShow (simulation_at setting clock ps y) i) x.1 can in
      let all : length ps ≡ length (processes setting.model) =
      ∥∥₁_elim (subst (λ (y : Standing). ∥ Holds setting clock ps y ∥₁) x.1 h) (ℕ_set (length ps) (length (processes setting.model))) (λ k. sym (length-map ps process_view) ∙ k.are.whole) in
      omega (arith, within, all)
  index_built (inr x) h =
      let within : i < length (processes setting.model) = subst (λ (y : Standing). CanShow (simulation_at setting clock ps y) i) x.1 can in
      let all : length ps ≡ length (processes setting.model) =
      ∥∥₁_elim (subst (λ (y : Standing). ∥ Holds setting clock ps y ∥₁) x.1 h) (ℕ_set (length ps) (length (processes setting.model))) (λ k. sym (length-map ps process_view) ∙ k) in
      omega (arith, within, all)

  pub not_broken : s ≡ standing.Broken → ⊥
  not_broken e = subst (λ (y : Standing). CanShow (simulation_at setting clock ps y) i) e can

  high_within : (trouble : Trouble) → s ≡ standing.High trouble → i < length (processes setting.model)
  high_within trouble e = subst (λ (y : Standing). CanShow (simulation_at setting clock ps y) i) e can

  pub high_process : (trouble : Trouble) (net : Net) → s ≡ standing.High trouble → ∥ IsNet setting.model net ∥₁ → HasProcess net i
  high_process trouble net e known =
      let all : length net.nodes ≡ length (processes setting.model) =
      ∥∥₁_elim known (ℕ_set (length net.nodes) (length (processes setting.model))) (λ k. ap (λ xs. length xs) k.nodes ∙ length-map (processes setting.model) (node_at setting.model)) in
      omega (arith, all, high_within trouble e)

  pub high_shows : (trouble : Trouble) (v : ℕ) (parcel : ParcelView) → s ≡ standing.High trouble → HoldsValue (start_of setting) i v parcel → IsShown (simulation_at setting clock ps s) i v parcel
  high_shows trouble v parcel e holds = subst (λ (y : Standing). IsShown (simulation_at setting clock ps y) i v parcel) (sym e) holds

-- what is shown of a process that is built
pub built_shows : (setting : Setting) (clock : ℕ) (ps : List Process) (s : Standing) (i v : ℕ) (p : Process) (parcel : ParcelView) → IsBuilt s → slice_get ps i ≡ Some p
    → IsParcelOf p.state.held (variable p.state.held v ∷ []) parcel → IsShown (simulation_at setting clock ps s) i v parcel
built_shows setting clock ps s i v p parcel built at is = by built
  where
    holds : HoldsValue (config_of clock ps) i v parcel
    holds = record { process = process_view p; stands = slice_get-map process_view ps i ∙ ap (option_map process_view) at; is_parcel = is }

    by : IsBuilt s → IsShown (simulation_at setting clock ps s) i v parcel
    by (inl x) = subst (λ (y : Standing). IsShown (simulation_at setting clock ps y) i v parcel) (sym x.1) holds
    by (inr x) = subst (λ (y : Standing). IsShown (simulation_at setting clock ps y) i v parcel) (sym x.1) holds

-- an action that ended in a trouble leaves the processes as they were
pub stayed : (ps qs : List Process) (r : Result (Result ⊤ Trouble) AllocError) (q : Result ⊤ Trouble) (trouble : Trouble) → r ≡ Ok q → q ≡ Err trouble → IfOk r (λ left. OnErr left (qs ≡ ps)) → qs ≡ ps
stayed ps qs r q trouble r_is q_is stays =
    subst (λ (z : Result ⊤ Trouble). OnErr z (qs ≡ ps)) q_is (subst (λ (z : Result (Result ⊤ Trouble) AllocError). IfOk z (λ left. OnErr left (qs ≡ ps))) r_is stays)

-- a simulator that is stopped keeps its processes
pub stopped_holds : (setting : Setting) (clock : ℕ) (old new : List Process) (trouble : Trouble) → new ≡ old → ∥ AreProcesses setting clock old ∥₁ → ∥ Holds setting clock new (standing.Stopped trouble) ∥₁
stopped_holds setting clock old new trouble same are =
    subst (λ (ps : List Process). ∥ Holds setting clock ps (standing.Stopped trouble) ∥₁) (sym same) (∥∥₁_elim are squash₁ (λ k. ∣ k.whole ∣₁))
