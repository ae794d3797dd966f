use Rattle.std.proofs.Common.{◌≡◌, ◌<◌, length, refl, subst, ◌∙◌, arith}
use Rattle.std.proofs.Math.Logic.{∥∥₁_map}
use Rattle.pz_bind.specs.pz_classes.CheckedView.{checked_model}
use Rattle.pz_rules.specs.pz_classes_rules.Soundness.{IsSound}
use Rattle.pz_term_processes.specs.pz_part_queries.declared.standpoint.Standpoint.{Standpoint}
use Rattle.pz_term_processes.specs.Standing.{setting_of, config_of}
use Rattle.pz_term_enabled.proofs.Whole.{whole_surveyed}
use Rattle.pz_term_enabled.proofs.Standing.{all_stay, counted, number_within, seen_there}
use Rattle.pz_term_enabled.proofs.surveying.survey_all.Goals as goal

pub loop-number-init : goal.loop-number-init
loop-number-init c = record { surveyed = λ below. below; unchanged = refl }

pub bounds-processes-number : goal.bounds-processes-number
bounds-processes-number c =
    let m = checked_model c.args.checked.now in
    let here : Standpoint = record { classes = c.classes-classes.result; limits = c.args.limits; process = c.loop-number.number; clock = c.args.clock } in
    let within : c.loop-number.number < length c.args.processes.now = number_within m c.args.net.now here c.args.processes.now c.requires.of_model c.requires.processes c.processes-number-end.result c.loop-number.number
    (λ known. c.processes-number-end.ensures.counted m known) c.loop-number-test.true in
    omega (arith, within, c.loop-number.auto.processes)

pub survey_process-requires-clause-there : goal.survey_process-requires-clause-there
survey_process-requires-clause-there c = c.processes-number-end.ensures.belongs c.loop-number.number c.loop-number-test.true

pub survey_process-requires-clause-known : goal.survey_process-requires-clause-known
survey_process-requires-clause-known c = ∥∥₁_map c.classes-classes.ensures.tabled (λ t. (checked_model c.args.checked.now, t))

pub loop-number-preserved : goal.loop-number-preserved
loop-number-preserved c =
    let m = checked_model c.args.checked.now in
    let here : Standpoint = record { classes = c.classes-classes.result; limits = c.args.limits; process = c.loop-number.number; clock = c.args.clock } in
    let sound : IsSound m = subst IsSound c.model-model.ensures.is c.model-model.ensures.sound in
    record {
      surveyed = λ below. c.in_ok-survey_process.ensures.surveyed m (config_of c.args.clock c.args.processes.now)
          (seen_there m c.args.net.now here c.args.processes.now c.requires.of_model c.requires.processes c.processes-number-end.result c.loop-number.processes c.index-processes-number.result
          (λ known. c.processes-number-end.ensures.counted m known) sound c.classes-classes.ensures.tabled c.loop-number.invariant.unchanged c.loop-number-test.true)
          (c.loop-number.invariant.surveyed below);
      unchanged = all_stay c.loop-number.processes c.args.processes.now c.loop-number.number c.index-processes-number.result c.survey_process.new.process c.loop-number.invariant.unchanged
          c.in_ok-survey_process.ensures.unchanged;
    }

pub returns-clause-surveyed : goal.returns-clause-surveyed
returns-clause-surveyed c = λ below.
    let m = checked_model c.args.checked.now in
    let here : Standpoint = record { classes = c.classes-classes.result; limits = c.args.limits; process = c.loop-number.number; clock = c.args.clock } in
    let end : c.loop-number.number ≡ c.processes-number-end.result = omega arith in
    whole_surveyed (setting_of m c.args.limits) (config_of c.args.clock c.args.processes.now) c.loop-number.number c.loop-number.survey
    (end ∙ counted m c.args.net.now here c.args.processes.now c.requires.of_model c.requires.processes c.processes-number-end.result (λ known. c.processes-number-end.ensures.counted m known))
    (c.loop-number.invariant.surveyed below)
