use Rattle.std.proofs.Common.{arith}
use Rattle.pz_bind.specs.pz_classes.CheckedView.{checked_model}
use Rattle.pz_rules.specs.pz_bind_rules.Nest.{processes}
use Rattle.pz_term_processes.specs.Standing.{setting_of}
use Rattle.pz_term_processes.specs.devices.Beginnings.{BeginsLow, BeginsHigh}
use Rattle.pz_term_processes.proofs.First.{there}
use Rattle.pz_term_processes.proofs.Starts.{counted}
use Rattle.pz_term_processes.proofs.Beginnings.{one_more, none_yet, of_none, of_some, all_low, first_high}
use Rattle.pz_term_processes.proofs.starting.first_too_high.Goals as goal

pub loop-process-init : goal.loop-process-init
loop-process-init c = none_yet (setting_of (checked_model c.args.checked.now) c.args.limits)

pub returns-in-Some : goal.returns-in-Some
returns-in-Some c =
    let setting = setting_of (checked_model c.args.checked.now) c.args.limits in
    let all = counted (checked_model c.args.checked.now) c.args.net.now c.processes-process-end.result c.requires.of_model c.processes-process-end.ensures.counted in
    let place = there (processes (checked_model c.args.checked.now)) c.loop-process.process (omega (arith, all, c.loop-process-test.true)) in
    let high = of_some (BeginsLow setting c.loop-process.process) (BeginsHigh setting c.loop-process.process) c.too_high.result c.in-Some.trouble c.in-Some.is c.too_high.ensures in
    first_high setting c.loop-process.process place.0 c.in-Some.trouble place.1 c.loop-process.invariant (high place.0 place.1)

pub loop-process-preserved : goal.loop-process-preserved
loop-process-preserved c =
    let setting = setting_of (checked_model c.args.checked.now) c.args.limits in
    one_more setting c.loop-process.process c.loop-process.invariant
    (of_none (BeginsLow setting c.loop-process.process) (BeginsHigh setting c.loop-process.process) c.too_high.result c.in_default.not-Some c.too_high.ensures)

pub returns : goal.returns
returns c =
    all_low (setting_of (checked_model c.args.checked.now) c.args.limits) c.loop-process.process
    (let all = counted (checked_model c.args.checked.now) c.args.net.now c.processes-process-end.result c.requires.of_model c.processes-process-end.ensures.counted in
    omega (arith, all, c.loop-process.auto.process-end, c.loop-process-test.false))
    c.loop-process.invariant
