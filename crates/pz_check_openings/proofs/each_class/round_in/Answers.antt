use Rattle.std.proofs.Common.{◌≡◌, ◌∙◌, sym, List, subst, None}
use Rattle.std.proofs.lemmas.Result.{IfOk-weaker}
use Rattle.pz_classes.specs.pz_check_violations.Least.{LeastOf}
use Rattle.pz_classes.specs.CheckedView.{checked_model}
use Rattle.pz_check_calls.specs.declared.graph.Method.{Method}
use Rattle.pz_check_calls.specs.Calls.{IsRound}
use Rattle.pz_check_openings.specs.devices.InClass.{methods_in, RoundIn}
use Rattle.pz_check_openings.proofs.Marking.{not_marked, is_seen}
use Rattle.pz_check_openings.proofs.Telling.{no_round_in, rounds_in}
use Rattle.pz_check_openings.proofs.each_class.round_in.Goals as goal

pub returns : goal.returns
returns c =
    let m = checked_model c.args.checked.now in
    let seen : c.as_slice.result.now ≡ methods_in m c.args.class c.args.outlines.now = c.as_slice.ensures ∙ c.in_ok-methods.ensures in
    IfOk-weaker c.least_round.result _ _ (λ found is. is_seen c.args.marks.now (RoundIn m c.args.outlines.now) c.args.class found (sym c.is_marked.ensures ∙ c.if-not-is_marked.false)
    (rounds_in m c.args.outlines.now c.args.class found (sym c.is_process.ensures ∙ c.if-not-is_process.false) (subst (λ (ms : List Method). LeastOf (IsRound ms) found) seen is))) c.least_round.ensures

pub returns-then-not-is_marked : goal.returns-then-not-is_marked
returns-then-not-is_marked c = not_marked c.args.marks.now (RoundIn (checked_model c.args.checked.now) c.args.outlines.now) c.args.class (sym c.is_marked.ensures ∙ c.if-not-is_marked.true)

pub returns-then-not-is_process : goal.returns-then-not-is_process
returns-then-not-is_process c = is_seen c.args.marks.now (RoundIn (checked_model c.args.checked.now) c.args.outlines.now) c.args.class None (sym c.is_marked.ensures ∙ c.if-not-is_marked.false)
    (no_round_in (checked_model c.args.checked.now) c.args.outlines.now c.args.class (sym c.is_process.ensures ∙ c.if-not-is_process.true))
