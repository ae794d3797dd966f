use Rattle.std.proofs.Common.{refl}
use Rattle.pz_prims.proofs.Outcomes.{of_itself-plain, on_ok}
use Rattle.pz_prims.proofs.Within.{plain_within, object_within}
use Rattle.pz_prims.proofs.table.own_answer.Goals as goal

pub returns-in_default-clause-answer : goal.returns-in_default-clause-answer
returns-in_default-clause-answer c =
    rw (of_itself-plain c.args.state.now.held c.args.receiver.now c.args.selector.now c.args.args.now c.in_default.not-Ref) c.sort_answer.ensures

pub returns-in_default-clause-state : goal.returns-in_default-clause-state
returns-in_default-clause-state c =
    rw (of_itself-plain c.args.state.now.held c.args.receiver.now c.args.selector.now c.args.args.now c.in_default.not-Ref) (on_ok c.sort_answer.result _ refl)

pub returns-in_default-clause-within : goal.returns-in_default-clause-within
returns-in_default-clause-within c = plain_within c.args.state.now.held c.args.receiver.now c.args.selector.now c.args.args.now c.in_default.not-Ref

pub returns-in-Ref-clause-within : goal.returns-in-Ref-clause-within
returns-in-Ref-clause-within c =
    let there = rw c.in-Ref.is at c.requires.receiver in
    rw c.in-Ref.is (object_within c.args.state.now.held c.in-Ref.r there c.object_answer.ensures.items c.args.selector.now c.args.args.now)
