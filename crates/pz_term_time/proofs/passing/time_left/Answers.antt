use Rattle.std.proofs.Common.{sym, ◌∙◌}
use Rattle.pz_classes_code.specs.CodeView as code
use Rattle.pz_part_queries.specs.Standpoints.{seen_from}
use Rattle.pz_term_time.proofs.Begun.{delay_begins}
use Rattle.pz_term_time.proofs.passing.time_left.Goals as goal

pub returns-in_ok-left-in-Delay-clause-left : goal.returns-in_ok-left-in-Delay-clause-left
returns-in_ok-left-in-Delay-clause-left c = λ m class time known.
    let a = seen_from m c.args.here.now class c.args.state.now.held in
    delay_begins a time c.args.frame.0 c.args.step.now c.in-Delay.lasting c.in_ok-left-in-Delay.left c.ok.result (sym c.get.ensures ∙ c.in-Delay.is)
    (c.evaluations_are_computed.ensures.times a c.args.frame.0 c.args.step.now.pos (code.view c.in-Delay.lasting) c.in_ok-left-in-Delay.left (c.in_ok-left-in-Delay.ensures.lasts m class known)) c.ok.ensures.value
