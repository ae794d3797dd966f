use Rattle.std.proofs.lemmas.Result.{IfOk-weaker}
use Rattle.pz_rules.specs.Messages.{Judges}
use Rattle.pz_rules.specs.View.{term_view}
use Rattle.pz_term_processes.specs.pz_part_queries.Standpoints.{seen_from}
use Rattle.pz_term_enabled.specs.devices.Judged.{JudgesAt}
use Rattle.pz_term_enabled.proofs.Verdicts.{may_act, receives_there, judges_at}
use Rattle.pz_term_enabled.proofs.judging.judge_part.Goals as goal

pub part_at-requires : goal.part_at-requires
part_at-requires c =
    may_act c.active_parts_may_act.ensures.law (term_view c.args.process.now.term) c.args.place.now c.as_slice.result.now c.as_slice.ensures c.requires.receives

pub judge-requires-clause-receives : goal.judge-requires-clause-receives
judge-requires-clause-receives c =
    receives_there (term_view c.args.process.now.term) (term_view c.part_at.result.1.now) c.args.place.now c.as_slice.result.now c.part_at.result.0.0 c.as_slice.ensures c.requires.receives c.part_at.ensures

pub returns-clause-judges : goal.returns-clause-judges
returns-clause-judges c = λ m class known.
    let a = seen_from m c.args.here.now class c.args.process.now.state.held in
    IfOk-weaker c.judge.result (Judges a c.part_at.result.0.0 c.args.parcel.now (term_view c.part_at.result.1.now)) (JudgesAt a (term_view c.args.process.now.term) c.args.place.now c.args.parcel.now)
    (λ verdict judges. judges_at a (term_view c.args.process.now.term) (term_view c.part_at.result.1.now) c.args.place.now c.as_slice.result.now c.part_at.result.0.0 c.args.parcel.now verdict c.as_slice.ensures c.part_at.ensures judges)
    (c.judge.ensures.judges m class known)
