use Rattle.std.proofs.Common.{sym, ◌∙◌}
use Rattle.pz_classes_code.specs.StepView.{view}
use Rattle.pz_rules.specs.Terms as terms
use Rattle.pz_term_processes.specs.pz_part_queries.Standpoints.{seen_from}
use Rattle.pz_term_enabled.proofs.Notes.{adds_none, adds_after}
use Rattle.pz_term_enabled.proofs.Forms.{notes_Skip, notes_Eval, notes_Block, notes_If, notes_While, notes_Call, notes_Group, notes_Guard, notes_Par, notes_Sel, notes_Abort, notes_Interrupt, notes_Receive}
use Rattle.pz_term_enabled.proofs.noting.note_step.Goals as goal

pub returns-in-Skip-clause-adds : goal.returns-in-Skip-clause-adds
returns-in-Skip-clause-adds c = λ m class known.
    c.note_action.ensures (seen_from m c.args.here.now class c.args.state.now.held) c.args.frame.0 (terms.leaf (view c.args.step.now)) (notes_Skip (seen_from m c.args.here.now class c.args.state.now.held) c.args.frame.0 c.args.step.now (sym c.get.ensures ∙ c.in-Skip.is))

pub returns-in-Eval-clause-adds : goal.returns-in-Eval-clause-adds
returns-in-Eval-clause-adds c = λ m class known.
    c.note_action-in-Eval.ensures (seen_from m c.args.here.now class c.args.state.now.held) c.args.frame.0 (terms.leaf (view c.args.step.now)) (notes_Eval (seen_from m c.args.here.now class c.args.state.now.held) c.args.frame.0 c.args.step.now _ (sym c.get.ensures ∙ c.in-Eval.is))

pub returns-in-Block-clause-adds : goal.returns-in-Block-clause-adds
returns-in-Block-clause-adds c = λ m class known.
    c.note_action-in-Block.ensures (seen_from m c.args.here.now class c.args.state.now.held) c.args.frame.0 (terms.leaf (view c.args.step.now)) (notes_Block (seen_from m c.args.here.now class c.args.state.now.held) c.args.frame.0 c.args.step.now _ (sym c.get.ensures ∙ c.in-Block.is))

pub returns-in-If-clause-adds : goal.returns-in-If-clause-adds
returns-in-If-clause-adds c = λ m class known.
    c.note_action-in-If.ensures (seen_from m c.args.here.now class c.args.state.now.held) c.args.frame.0 (terms.leaf (view c.args.step.now)) (notes_If (seen_from m c.args.here.now class c.args.state.now.held) c.args.frame.0 c.args.step.now _ _ _ (sym c.get.ensures ∙ c.in-If.is))

pub returns-in-While-clause-adds : goal.returns-in-While-clause-adds
returns-in-While-clause-adds c = λ m class known.
    c.note_action-in-While.ensures (seen_from m c.args.here.now class c.args.state.now.held) c.args.frame.0 (terms.leaf (view c.args.step.now)) (notes_While (seen_from m c.args.here.now class c.args.state.now.held) c.args.frame.0 c.args.step.now _ _ (sym c.get.ensures ∙ c.in-While.is))

pub returns-in-Call-clause-adds : goal.returns-in-Call-clause-adds
returns-in-Call-clause-adds c = λ m class known.
    c.note_action-in-Call.ensures (seen_from m c.args.here.now class c.args.state.now.held) c.args.frame.0 (terms.leaf (view c.args.step.now)) (notes_Call (seen_from m c.args.here.now class c.args.state.now.held) c.args.frame.0 c.args.step.now _ _ _ (sym c.get.ensures ∙ c.in-Call.is))

pub returns-in-Group-clause-adds : goal.returns-in-Group-clause-adds
returns-in-Group-clause-adds c = λ m class known.
    adds_after (seen_from m c.args.here.now class c.args.state.now.held) c.args.place.now c.args.frame.0 (terms.leaf (view c.args.step.now)) _ c.args.found.now c.args.found.now (notes_Group (seen_from m c.args.here.now class c.args.state.now.held) c.args.frame.0 c.args.step.now _ (sym c.get.ensures ∙ c.in-Group.is)) (adds_none (seen_from m c.args.here.now class c.args.state.now.held) c.args.place.now c.args.found.now)

pub returns-in-Guard-clause-adds : goal.returns-in-Guard-clause-adds
returns-in-Guard-clause-adds c = λ m class known.
    adds_after (seen_from m c.args.here.now class c.args.state.now.held) c.args.place.now c.args.frame.0 (terms.leaf (view c.args.step.now)) _ c.args.found.now c.args.found.now (notes_Guard (seen_from m c.args.here.now class c.args.state.now.held) c.args.frame.0 c.args.step.now _ _ (sym c.get.ensures ∙ c.in-Guard.is)) (adds_none (seen_from m c.args.here.now class c.args.state.now.held) c.args.place.now c.args.found.now)

pub returns-in-Par-clause-adds : goal.returns-in-Par-clause-adds
returns-in-Par-clause-adds c = λ m class known.
    adds_after (seen_from m c.args.here.now class c.args.state.now.held) c.args.place.now c.args.frame.0 (terms.leaf (view c.args.step.now)) _ c.args.found.now c.args.found.now (notes_Par (seen_from m c.args.here.now class c.args.state.now.held) c.args.frame.0 c.args.step.now _ (sym c.get.ensures ∙ c.in-Par.is)) (adds_none (seen_from m c.args.here.now class c.args.state.now.held) c.args.place.now c.args.found.now)

pub returns-in-Sel-clause-adds : goal.returns-in-Sel-clause-adds
returns-in-Sel-clause-adds c = λ m class known.
    adds_after (seen_from m c.args.here.now class c.args.state.now.held) c.args.place.now c.args.frame.0 (terms.leaf (view c.args.step.now)) _ c.args.found.now c.args.found.now (notes_Sel (seen_from m c.args.here.now class c.args.state.now.held) c.args.frame.0 c.args.step.now _ (sym c.get.ensures ∙ c.in-Sel.is)) (adds_none (seen_from m c.args.here.now class c.args.state.now.held) c.args.place.now c.args.found.now)

pub returns-in-Abort-clause-adds : goal.returns-in-Abort-clause-adds
returns-in-Abort-clause-adds c = λ m class known.
    adds_after (seen_from m c.args.here.now class c.args.state.now.held) c.args.place.now c.args.frame.0 (terms.leaf (view c.args.step.now)) _ c.args.found.now c.args.found.now (notes_Abort (seen_from m c.args.here.now class c.args.state.now.held) c.args.frame.0 c.args.step.now _ _ (sym c.get.ensures ∙ c.in-Abort.is)) (adds_none (seen_from m c.args.here.now class c.args.state.now.held) c.args.place.now c.args.found.now)

pub returns-in-Interrupt-clause-adds : goal.returns-in-Interrupt-clause-adds
returns-in-Interrupt-clause-adds c = λ m class known.
    adds_after (seen_from m c.args.here.now class c.args.state.now.held) c.args.place.now c.args.frame.0 (terms.leaf (view c.args.step.now)) _ c.args.found.now c.args.found.now (notes_Interrupt (seen_from m c.args.here.now class c.args.state.now.held) c.args.frame.0 c.args.step.now _ _ (sym c.get.ensures ∙ c.in-Interrupt.is)) (adds_none (seen_from m c.args.here.now class c.args.state.now.held) c.args.place.now c.args.found.now)

pub returns-in-Receive-clause-adds : goal.returns-in-Receive-clause-adds
returns-in-Receive-clause-adds c = λ m class known.
    c.note_receive.ensures (seen_from m c.args.here.now class c.args.state.now.held) c.args.frame.0 (terms.leaf (view c.args.step.now)) (notes_Receive (seen_from m c.args.here.now class c.args.state.now.held) c.args.frame.0 c.args.step.now _ _ _ _ _ c.count_of.result (sym c.get.ensures ∙ c.in-Receive.is) c.count_of.ensures)
