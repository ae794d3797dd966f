use Rattle.std.proofs.Common.{◌<◌, length, subst, arith}
use Rattle.std.specs.Prelude.{slice_index_or}
use Rattle.std.proofs.lemmas.Option.{slice_get-get_or}
use Rattle.pz_bind.specs.pz_classes.CheckedView.{checked_model}
use Rattle.pz_rules.specs.pz_classes_rules.Soundness.{IsSound}
use Rattle.pz_term_processes.specs.Standing.{setting_of, config_of}
use Rattle.pz_term_steps.proofs.Marked.{known_is}
use Rattle.pz_term_steps.proofs.AtHome.{count_is}
use Rattle.pz_term_steps.proofs.Elapsed.{has_passed, passed_more, left_more, all_passed, passed_processes}
use Rattle.pz_term_steps.proofs.stepping.elapse.Goals as goal

pub pass_process-requires : goal.pass_process-requires
pass_process-requires c =
    known_is (checked_model c.args.checked.now) (record { classes = c.classes.result; limits = c.args.limits; process = c.loop-number.number; clock = c.args.clock }) c.classes.ensures.tabled

pub loop-number-preserved : goal.loop-number-preserved
loop-number-preserved c =
    let m = checked_model c.args.checked.now in
    let setting = setting_of m c.args.limits in
    let ps = c.loop-number.processes in
    let n = c.loop-number.number in
    let old = slice_index_or ps n c.index-processes-number.result in
    let new = c.pass_process.new.process in
    let count = count_is m c.args.limits c.args.clock c.args.net.now c.args.processes.now c.processes-number-end.result c.requires.of_model c.requires.processes c.processes-number-end.ensures.counted in
    let within : n < length ps = omega (arith, count, c.loop-number.auto.processes, c.loop-number-test.true) in
    let stands = slice_get-get_or ps n c.index-processes-number.result within in
    let passes = has_passed setting c.args.clock c.args.time n old new (λ class. c.in_ok-pass_process.ensures.term m class c.classes.ensures.tabled) c.in_ok-pass_process.ensures.state in
    record {
      passed = passed_more setting c.args.clock c.args.time c.args.processes.now ps n old new within stands c.loop-number.invariant.left passes c.loop-number.invariant.passed;
      left = left_more setting c.args.clock c.args.time c.args.processes.now ps n old new within stands c.loop-number.invariant.left passes;
    }

pub returns-clause-passes : goal.returns-clause-passes
returns-clause-passes c =
    let m = checked_model c.args.checked.now in
    let setting = setting_of m c.args.limits in
    let sound = subst IsSound c.model-model.ensures.is c.model-model.ensures.sound in
    let next = c.least_passes.ensures.some setting (config_of c.args.clock c.args.processes.now) c.args.time (c.wires_are_known.ensures.law m sound) c.requires.moment in
    all_passed setting c.args.clock c.args.time c.passing_is_computed.ensures.only c.args.processes.now c.loop-number.processes c.processes-number-end.result next.0 next.1
    (count_is m c.args.limits c.args.clock c.args.net.now c.args.processes.now c.processes-number-end.result c.requires.of_model c.requires.processes c.processes-number-end.ensures.counted)
    c.loop-number.auto.processes (λ i p below there. c.loop-number.invariant.passed i p (omega (arith, below, c.loop-number-test.false)) there)

pub returns-clause-processes : goal.returns-clause-processes
returns-clause-processes c =
    let m = checked_model c.args.checked.now in
    let setting = setting_of m c.args.limits in
    let sound = subst IsSound c.model-model.ensures.is c.model-model.ensures.sound in
    let next = c.least_passes.ensures.some setting (config_of c.args.clock c.args.processes.now) c.args.time (c.wires_are_known.ensures.law m sound) c.requires.moment in
    passed_processes setting c.args.clock c.args.time c.args.processes.now c.loop-number.processes c.one_next.ensures.whole c.what_fits_goes_on.ensures.stays c.low_terms_stay.ensures.passing sound c.requires.processes
    (all_passed setting c.args.clock c.args.time c.passing_is_computed.ensures.only c.args.processes.now c.loop-number.processes c.processes-number-end.result next.0 next.1
    (count_is m c.args.limits c.args.clock c.args.net.now c.args.processes.now c.processes-number-end.result c.requires.of_model c.requires.processes c.processes-number-end.ensures.counted)
    c.loop-number.auto.processes (λ i p below there. c.loop-number.invariant.passed i p (omega (arith, below, c.loop-number-test.false)) there))
