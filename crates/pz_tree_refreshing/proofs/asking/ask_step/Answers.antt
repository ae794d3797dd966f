use Rattle.std.proofs.Common.{◌∙◌, ap, sym, subst}
use Rattle.pz_classes_code.specs.CodeView as code
use Rattle.pz_part_queries.specs.Standpoints.{seen_from}
use Rattle.pz_tree_nodes.specs.pz_rules.Terms.{Step}
use Rattle.pz_tree_refreshing.specs.devices.Asked.{SaysItself}
use Rattle.pz_tree_refreshing.proofs.Statements.{is_delay, is_send, delay_itself, send_itself}
use Rattle.pz_tree_refreshing.proofs.asking.ask_step.Goals as goal

pub returns-in_ok-answer-in-Delay-clause-says : goal.returns-in_ok-answer-in-Delay-clause-says
returns-in_ok-answer-in-Delay-clause-says c m class known asked room =
    let a = seen_from m c.args.here.now class c.args.state.now.held in
    let f = c.args.spot.frame.0 in
    let s = c.args.step.now in
    let e = code.view c.in-Delay.time in
    let own = c.delay_says-own.result in
    subst (λ (z : Step). SaysItself a f c.args.spot.clock z (record own { clocked = c.names_clock.result })) (sym (is_delay s c.in-Delay.time (sym c.get.ensures ∙ c.in-Delay.is)))
    (delay_itself a f c.args.spot.clock s.pos e c.in_ok-answer-in-Delay.answer own (record own { clocked = c.names_clock.result })
    (c.evaluations_are_computed.ensures.times a f s.pos e c.in_ok-answer-in-Delay.answer (c.in_ok-answer-in-Delay.ensures.lasts m class known))
    (c.delay_says-own.ensures room)
    (ap (λ b. record own { clocked = b }) c.names_clock.ensures))

pub returns-in_ok-answer-in-Send-clause-says : goal.returns-in_ok-answer-in-Send-clause-says
returns-in_ok-answer-in-Send-clause-says c m class known asked room =
    let a = seen_from m c.args.here.now class c.args.state.now.held in
    let f = c.args.spot.frame.0 in
    let s = c.args.step.now in
    let own = c.send_says-own.result in
    let x = c.in-Send in
    subst (λ (z : Step). SaysItself a f c.args.spot.clock z (record own { clocked = c.part_names_clock.result })) (sym (is_send s x.port x.name x.args x.block (sym c.get.ensures ∙ x.is)))
    (send_itself a f c.args.spot.clock s.pos x.port x.name (code.part_view x.args) (code.part_view x.block) c.evaluations_are_computed.ensures.parts
    c.in_ok-answer-in-Send.answer (c.in_ok-answer-in-Send.ensures.packs m class known) own (record own { clocked = c.part_names_clock.result }) c.send_says-own.ensures
    (ap (λ b. record own { clocked = b }) c.part_names_clock.ensures))
