use Rattle.std.proofs.Common.{[], ◌∷◌, length, refl, arith}
use Rattle.std.proofs.Math.Logic.{∥∥₁_map}
use Rattle.std.proofs.lemmas.Option.{slice_get_read}
use Rattle.std.proofs.lemmas.Result.{IfOk-weaker}
use Rattle.pz_rules.specs.pz_state.States.{variable}
use Rattle.pz_rules.specs.pz_copy.Packing.{IsParcelOf}
use Rattle.pz_bind.specs.pz_classes.CheckedView.{checked_model}
use Rattle.pz_rules.specs.devices.Start.{start_of}
use Rattle.pz_tree.specs.pz_term_processes.Standing.{setting_of}
use Rattle.pz_term_simulator.specs.Shown.{HoldsValue, IsShown}
use Rattle.pz_tree.specs.Trees.{process_in}
use Rattle.pz_sim.specs.Sims.{simulation_of}
use Rattle.pz_sim.proofs.Showed.{index_built, not_broken, high_process, high_shows, built_shows}
use Rattle.pz_sim.proofs.sim.Sim.shown.Goals as goal

pub index-process-requires : goal.index-process-requires
index-process-requires c =
    let s = c.args.self.now in
    let within = index_built (setting_of (checked_model s.checked) s.limits) s.clock s.trees.items s.totals s.pairs s.standing c.args.process c.requires c.in-Whole.is s.holds in
    omega (arith, within, s.trees.ok.0)

pub returns-in-Whole : goal.returns-in-Whole
returns-in-Whole c =
    let s = c.args.self.now in
    let setting = setting_of (checked_model s.checked) s.limits in
    let within = index_built setting s.clock s.trees.items s.totals s.pairs s.standing c.args.process c.requires c.in-Whole.is s.holds in
    let t = c.index-process.result.now in
    IfOk-weaker c.shown.result (IsParcelOf (process_in t).state (variable (process_in t).state c.args.variable ∷ [])) (IsShown (simulation_of s) c.args.process c.args.variable)
    (λ parcel is.
    built_shows setting s.clock s.trees.items s.standing c.args.process c.args.variable t parcel c.in-Whole.is
    (slice_get_read s.trees.items (length s.trees.items) c.args.process t refl within c.index-process.ensures) is)
    c.shown.ensures.parcel

pub shown_at_start-requires-clause-there : goal.shown_at_start-requires-clause-there
shown_at_start-requires-clause-there c =
    let s = c.args.self.now in
    high_process (setting_of (checked_model s.checked) s.limits) s.clock s.trees.items s.totals s.pairs s.standing c.args.process c.requires c.in-High.field-0 s.net c.in-High.is s.of_model

pub shown_at_start-requires-clause-of_model : goal.shown_at_start-requires-clause-of_model
shown_at_start-requires-clause-of_model c = ∥∥₁_map c.args.self.now.of_model (λ net. (checked_model c.args.self.now.checked, net))

pub returns-in-High : goal.returns-in-High
returns-in-High c =
    let s = c.args.self.now in
    let setting = setting_of (checked_model s.checked) s.limits in
    IfOk-weaker c.shown_at_start.result (HoldsValue (start_of setting) c.args.process c.args.variable) (IsShown (simulation_of s) c.args.process c.args.variable)
    (λ parcel holds. high_shows setting s.clock s.trees.items s.standing c.args.process c.args.variable c.in-High.field-0 parcel c.in-High.is holds)
    (c.shown_at_start.ensures setting s.of_model)

pub unreachable-requires : goal.unreachable-requires
unreachable-requires c =
    let s = c.args.self.now in
    not_broken (setting_of (checked_model s.checked) s.limits) s.clock s.trees.items s.totals s.pairs s.standing c.args.process c.requires c.in-Broken.is
