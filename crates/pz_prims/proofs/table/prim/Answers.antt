use Rattle.std.proofs.Common.{ℕ, Ok, Some, None, ap, sym, ◌∙◌}
use Rattle.pz_state.specs.Marks.{changed}
use Rattle.pz_prims.specs.Table.{outcome}
use Rattle.pz_prims.proofs.Outcomes.{outcome-by_found}
use Rattle.pz_prims.proofs.Keeping.{kept_by, other_by}
use Rattle.pz_prims.proofs.Within.{within_first, within_later, within_by, count_by}
use Rattle.pz_prims.proofs.table.prim.Goals as goal

pub returns-in-Some-clause-answer : goal.returns-in-Some-clause-answer
returns-in-Some-clause-answer c =
    c.told.ensures ∙ ap (λ o. o.answer) (sym (outcome-by_found c.args.state.now.held c.args.receiver.now c.args.selector.now c.args.args.now (Some c.in-Some.answer) (sym c.in-Some.ensures)))

pub returns-in-Some-clause-state : goal.returns-in-Some-clause-state
returns-in-Some-clause-state c =
    ap (λ o. changed c.args.state.now o.state) (sym (outcome-by_found c.args.state.now.held c.args.receiver.now c.args.selector.now c.args.args.now (Some c.in-Some.answer) (sym c.in-Some.ensures)))

pub returns-in-Some-clause-kept : goal.returns-in-Some-clause-kept
returns-in-Some-clause-kept c =
    kept_by {E = ℕ} (Ok c.told.result) c.args.state.now c.args.state.now c.args.receiver.now c.args.selector.now c.args.args.now
    (returns-in-Some-clause-answer c) (returns-in-Some-clause-state c)

pub returns-in-Some-clause-other : goal.returns-in-Some-clause-other
returns-in-Some-clause-other c =
    other_by {E = ℕ} (Ok c.told.result) c.args.state.now.held c.args.receiver.now c.args.selector.now c.args.args.now (returns-in-Some-clause-answer c)

pub returns-in-Some-clause-within : goal.returns-in-Some-clause-within
returns-in-Some-clause-within c =
    within_by {E = ℕ} (Ok c.told.result) c.args.state.now.held (outcome c.args.state.now.held c.args.receiver.now c.args.selector.now c.args.args.now)
    (returns-in-Some-clause-answer c)
    (within_first c.args.state.now.held c.args.receiver.now c.args.selector.now c.args.args.now c.in-Some.answer (sym c.in-Some.ensures))

pub returns-in-None-clause-answer : goal.returns-in-None-clause-answer
returns-in-None-clause-answer c =
    rw (outcome-by_found c.args.state.now.held c.args.receiver.now c.args.selector.now c.args.args.now None (sym c.in-None.ensures)) c.own_answer.ensures.answer

pub returns-in-None-clause-state : goal.returns-in-None-clause-state
returns-in-None-clause-state c =
    rw (outcome-by_found c.args.state.now.held c.args.receiver.now c.args.selector.now c.args.args.now None (sym c.in-None.ensures)) c.own_answer.ensures.state

pub returns-in-None-clause-kept : goal.returns-in-None-clause-kept
returns-in-None-clause-kept c =
    kept_by c.own_answer.result c.args.state.now c.own_answer.new.state c.args.receiver.now c.args.selector.now c.args.args.now
    (returns-in-None-clause-answer c) (returns-in-None-clause-state c)

pub returns-in-None-clause-other : goal.returns-in-None-clause-other
returns-in-None-clause-other c =
    other_by c.own_answer.result c.args.state.now.held c.args.receiver.now c.args.selector.now c.args.args.now (returns-in-None-clause-answer c)

pub returns-in-None-clause-count : goal.returns-in-None-clause-count
returns-in-None-clause-count c =
    count_by c.own_answer.result c.args.state.now c.own_answer.new.state (outcome c.args.state.now.held c.args.receiver.now c.args.selector.now c.args.args.now)
    (returns-in-None-clause-state c) c.own_answer.ensures.err
    (within_later c.args.state.now.held c.args.receiver.now c.args.selector.now c.args.args.now (sym c.in-None.ensures) c.own_answer.ensures.within)

pub returns-in-None-clause-within : goal.returns-in-None-clause-within
returns-in-None-clause-within c =
    within_by c.own_answer.result c.args.state.now.held (outcome c.args.state.now.held c.args.receiver.now c.args.selector.now c.args.args.now)
    (returns-in-None-clause-answer c)
    (within_later c.args.state.now.held c.args.receiver.now c.args.selector.now c.args.args.now (sym c.in-None.ensures) c.own_answer.ensures.within)
