use Rattle.std.proofs.Common.{◌∙◌, ap}
use Rattle.pz_classes_code.specs.declared.code.Code.{Code}
use Rattle.pz_classes_code.specs.CodeView as code
use Rattle.pz_tree_nodes.specs.pz_eval_rules.Clocks.{names_clock}
use Rattle.pz_part_queries.specs.Standpoints.{seen_from}
use Rattle.pz_tree_refreshing.specs.devices.Asked.{kept_of_guard}
use Rattle.pz_tree_refreshing.proofs.Gates.{guard_asked}
use Rattle.pz_tree_refreshing.proofs.asking.ask_guard.Goals as goal

pub returns-clause-asked : goal.returns-clause-asked
returns-clause-asked c m class known fits may room =
    let a = seen_from m c.args.here.now class c.args.state.now.held in
    let e = code.view c.args.test in
    let answer = c.answer_of-is_open in
    guard_asked a c.args.spot.frame.0 c.args.spot.clock e c.args.pos c.args.shift c.gated-shift.result c.in_ok-ask_test.field-0 answer.result.0 answer.result.1
    (c.evaluations_are_computed.ensures.tests a c.args.spot.frame.0 c.args.pos e c.in_ok-ask_test.field-0 (c.in_ok-ask_test.ensures.tests m class known))
    answer.ensures (c.gated-shift.ensures fits) c.guard_says-kept.result
    (c.guard_says-kept.ensures ∙ ap (kept_of_guard answer.result.1) (c.names_clock-clocked.ensures ∙ ap (λ (z : Code). names_clock (code.view z)) c.get.ensures))
