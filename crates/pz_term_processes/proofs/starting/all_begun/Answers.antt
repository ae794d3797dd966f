use Rattle.std.proofs.Common.{◌+◌, sym, subst, List, arith}
use Rattle.pz_bind.specs.pz_classes.CheckedView.{checked_model}
use Rattle.pz_term_processes.specs.declared.process.Process.{Process}
use Rattle.pz_term_processes.proofs.Starts.{AreStarted, none_started, next_started, all_started, counted}
use Rattle.pz_term_processes.proofs.starting.all_begun.Goals as goal

pub loop-process-init : goal.loop-process-init
loop-process-init c = subst (λ (ps : List Process). AreStarted (checked_model c.args.checked.now) c.args.limits 0 ps) (sym c.new-processes.ensures.items) (none_started (checked_model c.args.checked.now) c.args.limits)

pub loop-process-preserved : goal.loop-process-preserved
loop-process-preserved c =
    subst (λ (ps : List Process). AreStarted (checked_model c.args.checked.now) c.args.limits (c.loop-process.process + 1) ps) (sym c.in_ok-push.ensures.items)
    (next_started (checked_model c.args.checked.now) c.args.limits c.loop-process.process c.loop-process.processes.items c.in_ok-first_of.field-0 c.loop-process.invariant c.in_ok-first_of.ensures)

pub returns : goal.returns
returns c =
    all_started (checked_model c.args.checked.now) c.loop-process.process c.loop-process.processes.items c.args.limits
    (let all = counted (checked_model c.args.checked.now) c.args.net.now c.processes-process-end.result c.requires.of_model c.processes-process-end.ensures.counted in
    omega (arith, all, c.loop-process.auto.process-end, c.loop-process-test.false))
    c.loop-process.invariant
