use Rattle.std.proofs.Common.{get_or}
use Rattle.std.proofs.lemmas.Result.{IfOk-weaker}
use Rattle.pz_bind.specs.pz_classes.CheckedView.{checked_model}
use Rattle.pz_rules.specs.pz_bind_rules.Nest.{class_at}
use Rattle.pz_rules.specs.Offers.{IsJudged}
use Rattle.pz_rules.specs.View.{term_view}
use Rattle.pz_term_processes.specs.Standing.{setting_of, config_of, process_view}
use Rattle.pz_term_enabled.specs.devices.Judged.{JudgesAt}
use Rattle.pz_term_enabled.proofs.Verdicts.{are_known, has_receive, seen_as, is_judged}
use Rattle.pz_term_enabled.proofs.judging.judge_receive.Goals as goal

pub judge_part-requires-clause-known : goal.judge_part-requires-clause-known
judge_part-requires-clause-known c = are_known (checked_model c.args.checked.now) c.classes.result.now c.classes.ensures.tabled

pub judge_part-requires-clause-receives : goal.judge_part-requires-clause-receives
judge_part-requires-clause-receives c = has_receive (checked_model c.args.checked.now) c.args.limits c.args.clock c.args.processes.now c.offered_parts_act.ensures.receives c.args.receiver.now c.requires c.index-processes-process.result

pub returns-clause-judged : goal.returns-clause-judged
returns-clause-judged c =
    let m = checked_model c.args.checked.now in
    let ps = c.args.processes.now in
    let r = c.args.receiver.now in
    let p = get_or ps r.end.process c.index-processes-process.result in
    IfOk-weaker c.judge_part.result (JudgesAt (seen_as m c.args.limits c.args.clock ps r c.requires (process_view p)) (term_view p.term) r.end.place c.args.parcel.now)
    (IsJudged (setting_of m c.args.limits) (config_of c.args.clock ps) r.end c.args.parcel.now)
    (λ verdict judges. is_judged m c.args.limits c.args.clock ps r c.requires c.index-processes-process.result c.args.parcel.now verdict judges)
    (c.judge_part.ensures.judges m (class_at m c.requires.active.stands.place) c.classes.ensures.tabled)
