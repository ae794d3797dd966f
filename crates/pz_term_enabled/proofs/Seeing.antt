-- A process of the code, surveyed behind those before it.
use Rattle.std.proofs.Common.{◌≡◌, ◌<◌, ◌+◌, ℕ, Bool, List, length, subst, ap}
use Rattle.std.proofs.Math.Logic.{∥∥₁_elim}
use Rattle.std.specs.Coded.{le_prop}
use Rattle.std.specs.List.{All}
use Rattle.std.proofs.lemmas.List.Elements.{All-weaker}
use Rattle.pz_classes_code.specs.pz_syntax.declared.tokens.Pos.{Pos}
use Rattle.pz_classes_code.specs.pz_syntax.Classes.{ModelTree}
use Rattle.pz_rules.specs.pz_copy.Parcels.{ParcelView}
use Rattle.pz_rules.specs.pz_classes_rules.Members.{ports}
use Rattle.pz_rules.specs.pz_bind_rules.Nest.{class_at}
use Rattle.pz_bind.specs.declared.net.Net.{Net}
use Rattle.pz_rules.specs.pz_offer.PlaceOrder.{Place}
use Rattle.pz_rules.specs.View.{term_view}
use Rattle.pz_rules.specs.Terms.{Term}
use Rattle.pz_rules.specs.Settings.{Context}
use Rattle.pz_rules.specs.Active.{IsActive}
use Rattle.pz_rules.specs.Messages.{Sends, sends, Receives, receives}
use Rattle.pz_rules.specs.Leaving.{is_done}
use Rattle.pz_rules.specs.Ports.{HasWires}
use Rattle.pz_rules.specs.Fitting.{TermFits}
use Rattle.pz_rules.specs.Configurations.{Config, Stands}
use Rattle.pz_rules.specs.devices.Ends.{ActivePartsFit}
use Rattle.pz_term_processes.specs.declared.process.Process.{Process}
use Rattle.pz_term_processes.specs.Standing.{setting_of, process_view}
use Rattle.pz_term_processes.specs.pz_part_queries.declared.standpoint.Standpoint.{Standpoint}
use Rattle.pz_term_processes.specs.pz_part_queries.Standpoints.{seen_from}
use Rattle.pz_term_enabled.specs.declared.found.ActiveSend.{ActiveSend}
use Rattle.pz_term_enabled.specs.declared.found.ActiveReceive.{ActiveReceive}
use Rattle.pz_term_enabled.specs.declared.found.Found.{Found}
use Rattle.pz_term_enabled.specs.devices.Walked.{IsWalked}
use Rattle.pz_term_enabled.specs.declared.findings.Survey.{Survey}
use Rattle.pz_term_enabled.specs.devices.Adding.{Adds}
use Rattle.pz_term_enabled.specs.devices.Below.{SurveyedBelow}
use Rattle.pz_term_enabled.specs.devices.Seen.{Wired, HasPort, wire_at, IsSeen}
use Rattle.pz_term_enabled.proofs.OneProcess.{SendsThere, ReceivesThere, sends_here, receives_here}
use Rattle.pz_term_enabled.proofs.Further.{WalkLaws, surveyed_further}

-- the port of a send or a receive that fits a class
send_port : (m : ModelTree) (class inner : ℕ) (a : Context) (f : ℕ) (part : Term) (pos : Pos) (port : ℕ) (message : List ℕ) (parcel : ParcelView)
    → Sends a f part pos port message parcel → TermFits m class inner part → port < length (ports m class)
send_port m class inner a f _ _ _ _ _ (sends at port name args block values s parcel gives packed) fits = fits.0

receive_port : (m : ModelTree) (class inner : ℕ) (part : Term) (pos : Pos) (port : ℕ) (message : List ℕ) (count : ℕ) → Receives part pos port message count → TermFits m class inner part → port < length (ports m class)
receive_port m class inner _ _ _ _ _ (receives at port name into condition block) fits = fits.0

module _ (m : ModelTree) (c : Config) (net : Net) (here : Standpoint) (process : Process) (seen : IsSeen m c net here process) where
  -- the process as its statements see it
  abbrev pub seen_at : Context
  seen_at = seen_from m here (class_at m seen.place) process.state.held

  stands : Stands (setting_of m here.limits) c here.process (process_view process) seen_at
  stands = record {
    place = seen.place;
    is_process = seen.is_process;
    is_here = seen.is_here;
    seen = ap (λ (k : ℕ). record { setting = setting_of m here.limits; process = here.process; class = class_at m seen.place; clock = k; state = process.state.held }) seen.clock;
  }

  -- an active part that fits
  port_merely : ActivePartsFit → (place : Place) (frame : ℕ) (part : Term) (port : ℕ) → IsActive seen_at (term_view process.term) place frame part
      → ((inner : ℕ) → TermFits m (class_at m seen.place) inner part → port < length (ports m (class_at m seen.place))) → port < length (ports m (class_at m seen.place))
  port_merely law place frame part port active has = ∥∥₁_elim seen.fit le_prop (λ known.
      let fits = law m (class_at m seen.place) 0 seen_at 0 (term_view process.term) place frame part active (known here.process seen.place (process_view process) seen.is_process seen.is_here) in
      has fits.0 fits.1)

  module _ (wires : HasWires m) where
    abbrev pub wired : Wired m net here.process
    wired = record { of_model = seen.of_model; place = seen.place; is_process = seen.is_process; wires = wires }

    pub sends_fit : WalkLaws → ActivePartsFit → (found : Found) → IsWalked seen_at (term_view process.term) found → All (λ x. HasPort wired x.port) found.sends.items
    sends_fit laws law found walked =
        All-weaker (SendsThere seen_at (term_view process.term)) (λ (x : ActiveSend). HasPort wired x.port)
        (λ x h. port_merely law x.place h.frame h.part x.port h.active (λ inner fits. send_port m (class_at m seen.place) inner seen_at h.frame h.part x.pos x.port x.message x.parcel h.it_holds fits))
        found.sends.items (sends_here seen_at (term_view process.term) laws.sends laws.parcels found.sends.items walked.sends).derivable

    pub receives_fit : WalkLaws → ActivePartsFit → (found : Found) → IsWalked seen_at (term_view process.term) found → All (λ x. HasPort wired x.port) found.receives.items
    receives_fit laws law found walked =
        All-weaker (ReceivesThere seen_at (term_view process.term)) (λ (x : ActiveReceive). HasPort wired x.port)
        (λ x h. port_merely law x.place h.frame h.part x.port h.active (λ inner fits. receive_port m (class_at m seen.place) inner h.part x.pos x.port x.message x.count h.it_holds fits))
        found.receives.items (receives_here seen_at (term_view process.term) laws.receives found.receives.items walked.receives).derivable

    pub process_surveyed : WalkLaws → (found : Found) (done : Bool) (old new : Survey) → done ≡ is_done (term_view process.term) → IsWalked seen_at (term_view process.term) found
        → SurveyedBelow (setting_of m here.limits) c here.process old → Adds (wire_at wired) here.process found done old new → SurveyedBelow (setting_of m here.limits) c (here.process + 1) new
    process_surveyed laws found done old new is walked so_far adds =
        surveyed_further (setting_of m here.limits) c here.process (process_view process) seen_at stands laws wires found old new walked
        (subst (λ (b : Bool). Adds (wire_at wired) here.process found b old new) is adds) so_far
