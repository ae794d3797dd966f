use Rattle.std.proofs.Common.{[], ◌∷◌}
use Rattle.std.proofs.lemmas.Result.{IfOk-weaker}
use Rattle.pz_rules.specs.pz_state.States.{initial, value_at}
use Rattle.pz_rules.specs.pz_copy.Packing.{IsParcelOf}
use Rattle.pz_rules.specs.devices.Start.{start_of}
use Rattle.pz_term_simulator.specs.Shown.{HoldsValue}
use Rattle.pz_term_simulator.proofs.Variables.{begun_plain, begun_holds}
use Rattle.pz_term_simulator.proofs.showing.shown_at_start.Goals as goal

pub begun_with-requires : goal.begun_with-requires
begun_with-requires c = begun_plain c.args.net.now c.args.process c.values.result.now c.requires.there c.values.ensures c.requires.of_model

pub returns : goal.returns
returns c setting known =
    IfOk-weaker c.begun_with.result (IsParcelOf (initial c.values.result.now) (value_at c.values.result.now c.args.variable ∷ [])) (HoldsValue (start_of setting) c.args.process c.args.variable)
    (begun_holds c.args.net.now c.args.process c.values.result.now c.requires.there c.values.ensures setting known c.args.variable) c.begun_with.ensures
