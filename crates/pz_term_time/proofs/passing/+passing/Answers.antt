use Rattle.std.proofs.Common.{◌≡◌, ◌∙◌, List, ap, arith}
use denote.Param.Weighed.{most}
use Rattle.pz_classes_code.specs.CodeView as code
use Rattle.pz_rules.specs.pz_state.Marks.{Seen}
use Rattle.pz_rules.specs.declared.term.Term.{Term}
use Rattle.pz_rules.proofs.term.Term.TheLaws.{the_size}
use Rattle.pz_rules.specs.View.{terms_view}
use Rattle.pz_rules.specs.devices.Passing.{passed_all}
use Rattle.pz_part_queries.specs.Standpoints.{seen_from}
use Rattle.pz_term_time.proofs.Left.{done_left, leaf_left, wait_left, seq_left, par_left, sel_left, guard_left, frame_left, abort_left, idle_left, handling_left, boxed_left, closed_left, open_left}
use Rattle.pz_term_time.proofs.Parts.{still_lower, later_still, as_many, one_passed, all_passed}
use Rattle.pz_term_time.proofs.passing.+passing.Goals as goal

pub pass_all-pass_part-requires : goal.pass_all-pass_part-requires
pass_all-pass_part-requires t c =
    let lower = still_lower c.into_vec-left.result.items c.loop-index.left.items c.loop-index.index c.loop-index.invariant.still the_size c.exchange-part.result
    (omega (arith, c.loop-index-test.true, c.len-index-end.ensures, c.into_vec-left.result.ok.0)) c.exchange-part.ensures.old in
    let same : most the_size c.into_vec-left.result.items ≡ most the_size c.args.parts = ap (λ (ts : List Term). most the_size ts) c.into_vec-left.ensures in
    (omega arith, c.requires)

pub pass_all-loop-index-preserved : goal.pass_all-loop-index-preserved
pass_all-loop-index-preserved t c = record {
  so_far = λ m class known.
      one_passed (λ (s : Seen). seen_from m c.args.here.now class s.held) c.args.time c.args.frame.0 c.args.state.now c.loop-index.state c.into_vec-left.result.items c.loop-index.left.items c.exchange-part.new.parts.items c.exchange.new.parts.items
      c.loop-index.index c.exchange-part.result _ c.in_ok-part.part c.loop-index.invariant.state
      (omega (arith, c.loop-index-test.true, c.len-index-end.ensures, c.into_vec-left.result.ok.0)) c.loop-index.invariant.count c.loop-index.invariant.still
      c.exchange-part.ensures.old c.exchange-part.ensures.new c.exchange.ensures.new (c.in_ok-part.ensures.passed m class known) (c.loop-index.invariant.so_far m class known);
  still = later_still c.into_vec-left.result.items c.loop-index.left.items c.loop-index.index c.loop-index.invariant.still c.exchange-part.new.parts.items c.exchange.new.parts.items _ c.in_ok-part.part c.exchange-part.ensures.new c.exchange.ensures.new;
  count = as_many c.loop-index.left.items c.exchange-part.new.parts.items c.exchange.new.parts.items c.loop-index.index _ c.in_ok-part.part c.exchange-part.ensures.new c.exchange.ensures.new ∙ c.loop-index.invariant.count;
  state = c.in_ok-part.ensures.state ∙ c.loop-index.invariant.state;
}

pub pass_all-returns-clause-passed : goal.pass_all-returns-clause-passed
pass_all-returns-clause-passed t c = λ m class known.
    ap terms_view c.from_vec.ensures
    ∙ all_passed (seen_from m c.args.here.now class c.args.state.now.held) c.args.time c.args.frame.0 c.into_vec-left.result.items c.loop-index.left.items c.loop-index.index
    (omega (arith, c.loop-index-test.false, c.len-index-end.ensures, c.into_vec-left.result.ok.0)) c.loop-index.invariant.count (c.loop-index.invariant.so_far m class known)
    ∙ ap (λ (ts : List Term). passed_all (seen_from m c.args.here.now class c.args.state.now.held) c.args.time c.args.frame.0 (terms_view ts)) c.into_vec-left.ensures

pub pass_boxed-returns-clause-passed : goal.pass_boxed-returns-clause-passed
pass_boxed-returns-clause-passed t c = λ m class known.
    boxed_left (seen_from m c.args.here.now class c.args.state.now.held) c.args.time c.args.frame.0 c.new.result c.args.term c.into_inner.result c.in_ok-left.left c.into_inner.ensures c.new.ensures (c.in_ok-left.ensures.passed m class known)

pub pass_guarded-returns-then-not-is_open-clause-passed : goal.pass_guarded-returns-then-not-is_open-clause-passed
pass_guarded-returns-then-not-is_open-clause-passed t c = λ m class known.
    let a = seen_from m c.args.here.now class c.args.state.now.held in
    closed_left a c.args.time c.args.frame.0 c.in_ok-answer.answer c.is_open.result c.args.test c.args.pos c.args.body
    (c.evaluations_are_computed.ensures.tests a c.args.frame.0 c.args.pos (code.view c.args.test) c.in_ok-answer.answer (c.in_ok-answer.ensures.tests m class known)) c.is_open.ensures c.if-not-is_open.true

pub pass_guarded-returns-clause-passed : goal.pass_guarded-returns-clause-passed
pass_guarded-returns-clause-passed t c = λ m class known.
    let a = seen_from m c.args.here.now class c.args.state.now.held in
    open_left (λ (s : Seen). seen_from m c.args.here.now class s.held) c.args.time c.args.frame.0 c.args.state.now c.ask_test.new.state c.in_ok-answer.answer c.is_open.result c.args.test c.args.pos c.args.body c.in_ok-body.body
    c.in_ok-answer.ensures.state (c.evaluations_are_computed.ensures.tests a c.args.frame.0 c.args.pos (code.view c.args.test) c.in_ok-answer.answer (c.in_ok-answer.ensures.tests m class known)) c.is_open.ensures c.if-not-is_open.false
    (c.in_ok-body.ensures.passed m class known)

pub pass_part-returns-in-Done-clause-passed : goal.pass_part-returns-in-Done-clause-passed
pass_part-returns-in-Done-clause-passed t c = λ m class known.
    done_left (seen_from m c.args.here.now class c.args.state.now.held) c.args.time c.args.frame.0 c.args.term c.in-Done.is

pub pass_part-returns-in-Leaf-clause-passed : goal.pass_part-returns-in-Leaf-clause-passed
pass_part-returns-in-Leaf-clause-passed t c = λ m class known.
    leaf_left (seen_from m c.args.here.now class c.args.state.now.held) c.args.time c.args.frame.0 c.pass_step.result c.args.term c.in-Leaf.step c.in-Leaf.is (c.pass_step.ensures.passed m class known)

pub pass_part-returns-in-Wait-clause-passed : goal.pass_part-returns-in-Wait-clause-passed
pass_part-returns-in-Wait-clause-passed t c = λ m class known.
    wait_left (seen_from m c.args.here.now class c.args.state.now.held) c.args.time c.args.frame.0 c.args.term c.go_on.result c.in-Wait.left c.in-Wait.pos c.in-Wait.is c.go_on.ensures

pub pass_part-returns-in_ok-first-in-Seq-clause-passed : goal.pass_part-returns-in_ok-first-in-Seq-clause-passed
pass_part-returns-in_ok-first-in-Seq-clause-passed t c = λ m class known.
    seq_left (seen_from m c.args.here.now class c.args.state.now.held) c.args.time c.args.frame.0 c.args.term c.in-Seq.first c.in_ok-first-in-Seq.first c.in-Seq.rest c.in-Seq.is (c.in_ok-first-in-Seq.ensures.passed m class known)

pub pass_part-returns-in_ok-parts-in-Par-clause-passed : goal.pass_part-returns-in_ok-parts-in-Par-clause-passed
pass_part-returns-in_ok-parts-in-Par-clause-passed t c = λ m class known.
    par_left (seen_from m c.args.here.now class c.args.state.now.held) c.args.time c.args.frame.0 c.args.term c.in-Par.parts c.in_ok-parts-in-Par.parts c.in-Par.is (c.in_ok-parts-in-Par.ensures.passed m class known)

pub pass_part-returns-in_ok-parts-in-Sel-clause-passed : goal.pass_part-returns-in_ok-parts-in-Sel-clause-passed
pass_part-returns-in_ok-parts-in-Sel-clause-passed t c = λ m class known.
    sel_left (seen_from m c.args.here.now class c.args.state.now.held) c.args.time c.args.frame.0 c.args.term c.in-Sel.parts c.in_ok-parts-in-Sel.parts c.in-Sel.is (c.in_ok-parts-in-Sel.ensures.passed m class known)

pub pass_part-returns-in-Guard-clause-passed : goal.pass_part-returns-in-Guard-clause-passed
pass_part-returns-in-Guard-clause-passed t c = λ m class known.
    guard_left (seen_from m c.args.here.now class c.args.state.now.held) c.args.time c.args.frame.0 c.pass_guarded.result c.args.term c.in-Guard.test c.in-Guard.pos c.in-Guard.body c.in-Guard.is (c.pass_guarded.ensures.passed m class known)

pub pass_part-returns-in_ok-body-in-Frame-clause-passed : goal.pass_part-returns-in_ok-body-in-Frame-clause-passed
pass_part-returns-in_ok-body-in-Frame-clause-passed t c = λ m class known.
    frame_left (seen_from m c.args.here.now class c.args.state.now.held) c.args.time c.args.frame.0 c.args.term c.in-Frame.body c.in_ok-body-in-Frame.body c.in-Frame.own c.in-Frame.inputs c.in-Frame.results c.in-Frame.is (c.in_ok-body-in-Frame.ensures.passed m class known)

pub pass_part-returns-in_ok-second-in-Abort-clause-passed : goal.pass_part-returns-in_ok-second-in-Abort-clause-passed
pass_part-returns-in_ok-second-in-Abort-clause-passed t c = λ m class known.
    abort_left (λ (s : Seen). seen_from m c.args.here.now class s.held) c.args.time c.args.frame.0 c.args.state.now c.pass_boxed-in-Abort.new.state c.args.term c.in-Abort.first c.in-Abort.second c.in_ok-first-in-Abort.first c.in_ok-second-in-Abort.second
    c.in-Abort.is c.in_ok-first-in-Abort.ensures.state (c.in_ok-first-in-Abort.ensures.passed m class known) (c.in_ok-second-in-Abort.ensures.passed m class known)

pub pass_part-returns-in_ok-second-in-Idle-clause-passed : goal.pass_part-returns-in_ok-second-in-Idle-clause-passed
pass_part-returns-in_ok-second-in-Idle-clause-passed t c = λ m class known.
    idle_left (λ (s : Seen). seen_from m c.args.here.now class s.held) c.args.time c.args.frame.0 c.args.state.now c.pass_boxed-in-Idle.new.state c.args.term c.in-Idle.first c.in-Idle.second c.in_ok-first-in-Idle.first c.in_ok-second-in-Idle.second c.in-Idle.again
    c.in-Idle.is c.in_ok-first-in-Idle.ensures.state (c.in_ok-first-in-Idle.ensures.passed m class known) (c.in_ok-second-in-Idle.ensures.passed m class known)

pub pass_part-returns-in_ok-second-in-Handling-clause-passed : goal.pass_part-returns-in_ok-second-in-Handling-clause-passed
pass_part-returns-in_ok-second-in-Handling-clause-passed t c = λ m class known.
    handling_left (seen_from m c.args.here.now class c.args.state.now.held) c.args.time c.args.frame.0 c.args.term c.in-Handling.first c.in-Handling.second c.in_ok-second-in-Handling.second c.in-Handling.again c.in-Handling.is (c.in_ok-second-in-Handling.ensures.passed m class known)
