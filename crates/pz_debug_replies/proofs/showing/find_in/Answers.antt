use Rattle.std.proofs.Common.{sym, subst}
use Rattle.pz_classes_code.specs.pz_syntax.Classes.{ModelTree}
use Rattle.pz_bind.specs.devices.Nets.{IsNet}
use Rattle.pz_bind.specs.pz_classes.CheckedView.{checked_model}
use Rattle.pz_term_simulator.specs.Simulations.{model_in}
use Rattle.pz_debug_session.specs.Sessions.{stands_in}
use Rattle.pz_debug_replies.proofs.Searched.{process_stands, is_there, is_none}
use Rattle.pz_debug_replies.proofs.showing.find_in.Goals as goal

pub find_variable-requires-clause-of_model : goal.find_variable-requires-clause-of_model
find_variable-requires-clause-of_model g c = subst (λ (m : ModelTree). ∥ IsNet m c.net.result.now ∥₁) (sym c.checked.ensures) c.net.ensures

pub find_variable-requires-clause-belongs : goal.find_variable-requires-clause-belongs
find_variable-requires-clause-belongs g c =
    process_stands (model_in (stands_in g.E.Simulator.simulation c.args.session.now)) c.net.result.now c.args.process c.net.ensures c.requires.first.there

pub returns-in-Some : goal.returns-in-Some
returns-in-Some g c =
    is_there (model_in (stands_in g.E.Simulator.simulation c.args.session.now)) (checked_model c.checked.result.now) c.args.path.now c.args.name.now c.args.process c.requires.first c.find_variable.result c.checked.ensures
    c.find_variable.ensures c.in-Some.variable c.in-Some.is

pub returns-in-None : goal.returns-in-None
returns-in-None g c =
    is_none (model_in (stands_in g.E.Simulator.simulation c.args.session.now)) (checked_model c.checked.result.now) c.args.path.now c.args.name.now c.args.process c.requires.first c.find_variable.result c.checked.ensures
    c.find_variable.ensures c.in-None.is
