use Rattle.std.proofs.Common.{[], ◌∷◌, length, refl, arith}
use Rattle.std.proofs.Math.Logic.{∥∥₁_map}
use Rattle.std.proofs.lemmas.Option.{slice_get_read}
use Rattle.std.proofs.lemmas.Result.{IfOk-weaker}
use Rattle.pz_rules.specs.pz_state.States.{variable}
use Rattle.pz_rules.specs.pz_copy.Packing.{IsParcelOf}
use Rattle.pz_bind.specs.pz_classes.CheckedView.{checked_model}
use Rattle.pz_term_processes.specs.Standing.{setting_of}
use Rattle.pz_term.specs.Plains.{simulation_of}
use Rattle.pz_rules.specs.devices.Start.{start_of}
use Rattle.pz_term_simulator.specs.Shown.{HoldsValue, IsShown}
use Rattle.pz_term.proofs.Variables.{index_built, not_broken, high_process, high_shows, built_shows}
use Rattle.pz_term.proofs.plain.Plain.shown.Goals as goal

pub index-process-requires : goal.index-process-requires
index-process-requires c =
    let within = index_built (setting_of (checked_model c.args.self.now.checked) c.args.self.now.limits) c.args.self.now.clock c.args.self.now.processes.items c.args.self.now.standing c.args.process c.requires c.in-Whole.is c.args.self.now.holds in
    omega (arith, within, c.args.self.now.processes.ok.0)

pub returns-in-Whole : goal.returns-in-Whole
returns-in-Whole c =
    let setting = setting_of (checked_model c.args.self.now.checked) c.args.self.now.limits in
    let within = index_built setting c.args.self.now.clock c.args.self.now.processes.items c.args.self.now.standing c.args.process c.requires c.in-Whole.is c.args.self.now.holds in
    IfOk-weaker c.shown_in.result (IsParcelOf c.index-process.result.now.state.held (variable c.index-process.result.now.state.held c.args.variable ∷ [])) (IsShown (simulation_of c.args.self.now) c.args.process c.args.variable)
    (λ parcel is.
    built_shows setting c.args.self.now.clock c.args.self.now.processes.items c.args.self.now.standing c.args.process c.args.variable c.index-process.result.now parcel c.in-Whole.is
    (slice_get_read c.args.self.now.processes.items (length c.args.self.now.processes.items) c.args.process c.index-process.result.now refl within c.index-process.ensures) is)
    c.shown_in.ensures

pub shown_at_start-requires-clause-there : goal.shown_at_start-requires-clause-there
shown_at_start-requires-clause-there c =
    high_process (setting_of (checked_model c.args.self.now.checked) c.args.self.now.limits) c.args.self.now.clock c.args.self.now.processes.items c.args.self.now.standing c.args.process c.requires
    c.in-High.field-0 c.args.self.now.net c.in-High.is c.args.self.now.of_model

pub shown_at_start-requires-clause-of_model : goal.shown_at_start-requires-clause-of_model
shown_at_start-requires-clause-of_model c = ∥∥₁_map c.args.self.now.of_model (λ net. (checked_model c.args.self.now.checked, net))

pub returns-in-High : goal.returns-in-High
returns-in-High c =
    let setting = setting_of (checked_model c.args.self.now.checked) c.args.self.now.limits in
    IfOk-weaker c.shown_at_start.result (HoldsValue (start_of setting) c.args.process c.args.variable) (IsShown (simulation_of c.args.self.now) c.args.process c.args.variable)
    (λ parcel holds.
    high_shows setting c.args.self.now.clock c.args.self.now.processes.items c.args.self.now.standing c.args.process c.requires
    c.in-High.field-0 c.args.variable parcel c.in-High.is holds)
    (c.shown_at_start.ensures setting c.args.self.now.of_model)

pub unreachable-requires : goal.unreachable-requires
unreachable-requires c =
    not_broken (setting_of (checked_model c.args.self.now.checked) c.args.self.now.limits) c.args.self.now.clock c.args.self.now.processes.items c.args.self.now.standing c.args.process c.requires c.in-Broken.is
