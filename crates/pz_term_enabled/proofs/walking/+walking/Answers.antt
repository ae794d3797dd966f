use Rattle.std.proofs.Common.{◌∙◌, Bool, Result, Ok, refl, sym, ap}
use Rattle.std.proofs.lemmas.Result.{on_ok_weaker}
use Rattle.pz_rules.specs.pz_offer.declared.trouble.Trouble.{Trouble}
use Rattle.pz_classes_code.specs.CodeView as code
use Rattle.pz_rules.specs.pz_state.Marks.{Seen}
use Rattle.pz_rules.specs.Terms as terms
use Rattle.pz_rules.specs.View.{term_view}
use Rattle.pz_rules.specs.devices.Walk.{active_parts}
use Rattle.pz_term_processes.specs.pz_part_queries.Standpoints.{seen_from}
use Rattle.pz_term_enabled.proofs.Notes.{adds_under}
use Rattle.pz_term_enabled.proofs.Walks.{guard_closed, guard_troubled, troubled_guard}
use Rattle.pz_term_enabled.proofs.Moved.{both_added, next_added, behind_added}
use Rattle.pz_term_enabled.proofs.TermForms.{wait_added, seq_added, par_added, sel_added, guard_added, frame_added, abort_added, idle_added, handling_added}
use Rattle.pz_term_enabled.proofs.walking.+walking.Goals as goal

pub walk_both-returns-clause-adds : goal.walk_both-returns-clause-adds
walk_both-returns-clause-adds t c = λ m class known.
    both_added (λ (s : Seen). seen_from m c.args.here.now class s.held) c.args.frame.0 c.walk_child-2.result c.args.state.now c.walk_child.new.state c.args.place.now c.walk_child.new.place
    (term_view c.args.first.now) (term_view c.args.second.now) c.args.found.now c.walk_child.new.found c.walk_child-2.new.found
    c.in_ok-walk_child.ensures.state c.in_ok-walk_child.ensures.place (c.in_ok-walk_child.ensures.adds m class known) (c.walk_child-2.ensures.adds m class known)

pub walk_child-returns-clause-adds : goal.walk_child-returns-clause-adds
walk_child-returns-clause-adds t c = λ m class known.
    adds_under (seen_from m c.args.here.now class c.args.state.now.held) c.args.place.now c.enter.new.self c.args.number
    (active_parts (seen_from m c.args.here.now class c.args.state.now.held) c.args.frame.0 (term_view c.args.child.now)) c.args.found.now c.walk_part.new.found
    c.in_ok-enter.ensures.ok (c.in_ok-walk_part.ensures.adds m class known)

pub walk_children-loop-number-preserved : goal.walk_children-loop-number-preserved
walk_children-loop-number-preserved t c = record {
  adds = λ m class known.
      next_added (λ (s : Seen). seen_from m c.args.here.now class s.held) c.args.frame.0 c.args.state.now c.loop-number.state c.args.place.now c.loop-number.place c.args.parts.now c.loop-number.number
      c.index-parts-number.result c.args.found.now c.loop-number.found c.walk_child.new.found c.loop-number.invariant.state c.loop-number.invariant.place c.loop-number-test.true
      c.index-parts-number.is (c.loop-number.invariant.adds m class known) (c.in_ok-walk_child.ensures.adds m class known);
  place = c.in_ok-walk_child.ensures.place ∙ c.loop-number.invariant.place;
  state = c.in_ok-walk_child.ensures.state ∙ c.loop-number.invariant.state;
}

pub walk_guarded-returns-in-Ok-true-clause-adds : goal.walk_guarded-returns-in-Ok-true-clause-adds
walk_guarded-returns-in-Ok-true-clause-adds t c = λ m class known.
    behind_added (λ (s : Seen). seen_from m c.args.here.now class s.held) c.args.frame.0 c.walk_child.result c.args.state.now c.ask_test.new.state c.args.place.now (code.view c.args.test.now) c.args.pos
    (term_view c.args.body.now) c.args.found.now c.walk_child.new.found c.in_ok-ask_test.ensures.state
    (sym (c.in-Ok-true.is ∙ ap (λ (b : Bool). let r : Result Bool Trouble = Ok b in r) c.in-Ok-true.field-0-test)
    ∙ c.evaluations_are_computed.ensures.tests (seen_from m c.args.here.now class c.args.state.now.held) c.args.frame.0 c.args.pos (code.view c.args.test.now) c.in_ok-ask_test.field-0 (c.in_ok-ask_test.ensures.tests m class known))
    (c.walk_child.ensures.adds m class known)

pub walk_guarded-returns-in-Ok-false-clause-adds : goal.walk_guarded-returns-in-Ok-false-clause-adds
walk_guarded-returns-in-Ok-false-clause-adds t c = λ m class known.
    guard_closed (seen_from m c.args.here.now class c.args.state.now.held) c.args.frame.0 c.args.place.now (code.view c.args.test.now) c.args.pos (term_view c.args.body.now) c.args.found.now
    (sym (c.in-Ok-false.is ∙ ap (λ (b : Bool). let r : Result Bool Trouble = Ok b in r) c.in-Ok-false.field-0-test)
    ∙ c.evaluations_are_computed.ensures.tests (seen_from m c.args.here.now class c.args.state.now.held) c.args.frame.0 c.args.pos (code.view c.args.test.now) c.in_ok-ask_test.field-0 (c.in_ok-ask_test.ensures.tests m class known))

pub walk_guarded-returns-in-Err-clause-adds : goal.walk_guarded-returns-in-Err-clause-adds
walk_guarded-returns-in-Err-clause-adds t c = λ m class known.
    let is = sym c.in-Err.is ∙ c.evaluations_are_computed.ensures.tests (seen_from m c.args.here.now class c.args.state.now.held) c.args.frame.0 c.args.pos (code.view c.args.test.now) c.in_ok-ask_test.field-0 (c.in_ok-ask_test.ensures.tests m class known) in
    on_ok_weaker c.note_trouble.result
    (guard_troubled (seen_from m c.args.here.now class c.args.state.now.held) c.args.frame.0 c.args.place.now (code.view c.args.test.now) c.args.pos (term_view c.args.body.now) c.in-Err.trouble c.args.found.now c.note_trouble.new.found is)
    (c.note_trouble.ensures (seen_from m c.args.here.now class c.args.state.now.held) c.args.frame.0 (terms.guarded (code.view c.args.test.now) c.args.pos (term_view c.args.body.now))
    (troubled_guard (seen_from m c.args.here.now class c.args.state.now.held) c.args.frame.0 (code.view c.args.test.now) c.args.pos (term_view c.args.body.now) c.in-Err.trouble is))

pub walk_part-returns-in-Seq-clause-adds : goal.walk_part-returns-in-Seq-clause-adds
walk_part-returns-in-Seq-clause-adds t c = λ m class known.
    on_ok_weaker c.walk_child.result
    (seq_added (seen_from m c.args.here.now class c.args.state.now.held) c.args.frame.0 c.args.place.now c.args.found.now c.walk_child.new.found c.args.term.now c.in-Seq.first c.get.result.now c.in-Seq.field-1 c.in-Seq.is c.get.ensures)
    (c.walk_child.ensures.adds m class known)

pub walk_part-returns-in-Par-clause-adds : goal.walk_part-returns-in-Par-clause-adds
walk_part-returns-in-Par-clause-adds t c = λ m class known.
    on_ok_weaker c.walk_children.result
    (par_added (seen_from m c.args.here.now class c.args.state.now.held) c.args.frame.0 c.args.place.now c.args.found.now c.walk_children.new.found c.args.term.now c.in-Par.parts c.as_slice.result.now c.in-Par.is c.as_slice.ensures)
    (c.walk_children.ensures.adds m class known)

pub walk_part-returns-in-Sel-clause-adds : goal.walk_part-returns-in-Sel-clause-adds
walk_part-returns-in-Sel-clause-adds t c = λ m class known.
    on_ok_weaker c.walk_children-in-Sel.result
    (sel_added (seen_from m c.args.here.now class c.args.state.now.held) c.args.frame.0 c.args.place.now c.args.found.now c.walk_children-in-Sel.new.found c.args.term.now c.in-Sel.parts c.as_slice-in-Sel.result.now c.in-Sel.is c.as_slice-in-Sel.ensures)
    (c.walk_children-in-Sel.ensures.adds m class known)

pub walk_part-returns-in-Guard-clause-adds : goal.walk_part-returns-in-Guard-clause-adds
walk_part-returns-in-Guard-clause-adds t c = λ m class known.
    on_ok_weaker c.walk_guarded.result
    (guard_added (seen_from m c.args.here.now class c.args.state.now.held) c.args.frame.0 c.args.place.now c.args.found.now c.walk_guarded.new.found c.args.term.now c.in-Guard.body c.get-in-Guard.result.now c.in-Guard.test c.in-Guard.pos c.in-Guard.is c.get-in-Guard.ensures)
    (c.walk_guarded.ensures.adds m class known)

pub walk_part-returns-in-Frame-clause-adds : goal.walk_part-returns-in-Frame-clause-adds
walk_part-returns-in-Frame-clause-adds t c = λ m class known.
    on_ok_weaker c.walk_child-in-Frame.result
    (frame_added (seen_from m c.args.here.now class c.args.state.now.held) c.args.frame.0 c.args.place.now c.args.found.now c.walk_child-in-Frame.new.found c.args.term.now c.in-Frame.body c.get-in-Frame.result.now c.in-Frame.own c.in-Frame.inputs c.in-Frame.results c.in-Frame.is c.get-in-Frame.ensures)
    (c.walk_child-in-Frame.ensures.adds m class known)

pub walk_part-returns-in-Abort-clause-adds : goal.walk_part-returns-in-Abort-clause-adds
walk_part-returns-in-Abort-clause-adds t c = λ m class known.
    on_ok_weaker c.walk_both.result
    (abort_added (seen_from m c.args.here.now class c.args.state.now.held) c.args.frame.0 c.args.place.now c.args.found.now c.walk_both.new.found c.args.term.now c.in-Abort.first c.in-Abort.second c.get-in-Abort.result.now c.get-in-Abort-2.result.now c.in-Abort.is c.get-in-Abort.ensures c.get-in-Abort-2.ensures)
    (c.walk_both.ensures.adds m class known)

pub walk_part-returns-in-Idle-clause-adds : goal.walk_part-returns-in-Idle-clause-adds
walk_part-returns-in-Idle-clause-adds t c = λ m class known.
    on_ok_weaker c.walk_both-in-Idle.result
    (idle_added (seen_from m c.args.here.now class c.args.state.now.held) c.args.frame.0 c.args.place.now c.args.found.now c.walk_both-in-Idle.new.found c.args.term.now c.in-Idle.first c.in-Idle.second c.get-in-Idle.result.now c.get-in-Idle-2.result.now c.in-Idle.field-2 c.in-Idle.is c.get-in-Idle.ensures c.get-in-Idle-2.ensures)
    (c.walk_both-in-Idle.ensures.adds m class known)

pub walk_part-returns-in-Handling-clause-adds : goal.walk_part-returns-in-Handling-clause-adds
walk_part-returns-in-Handling-clause-adds t c = λ m class known.
    on_ok_weaker c.walk_child-in-Handling.result
    (handling_added (seen_from m c.args.here.now class c.args.state.now.held) c.args.frame.0 c.args.place.now c.args.found.now c.walk_child-in-Handling.new.found c.args.term.now c.in-Handling.field-0 c.in-Handling.second c.get-in-Handling.result.now c.in-Handling.field-2 c.in-Handling.is c.get-in-Handling.ensures)
    (c.walk_child-in-Handling.ensures.adds m class known)

pub walk_part-returns-in-Wait-clause-adds : goal.walk_part-returns-in-Wait-clause-adds
walk_part-returns-in-Wait-clause-adds t c = λ m class known.
    let a = seen_from m c.args.here.now class c.args.state.now.held in
    on_ok_weaker c.note_left.result
    (wait_added a c.args.frame.0 c.args.place.now c.args.found.now c.note_left.new.found c.args.term.now c.in-Wait.left c.in-Wait.pos c.in-Wait.is)
    (c.note_left.ensures a c.args.frame.0 (terms.wait c.in-Wait.left c.in-Wait.pos) refl (λ unbegun. absurd cc))
