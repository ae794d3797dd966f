use Rattle.std.proofs.Common.{List, sym, subst, arith}
use Rattle.pz_state.specs.declared.journal.Entry.{Entry}
use Rattle.pz_state.specs.devices.Journals.{AreReady}
use Rattle.pz_state.proofs.Journals.{ends, goes_back, ready_pop, ready_after, fewer_after}
use Rattle.pz_state.proofs.journal.undo_last.Goals as goal

pub undo_entry-requires : goal.undo_entry-requires
undo_entry-requires c = (ready_pop c.loop-entry.contents.room c.pop.new.self.items c.in-Some.entry c.loop-entry.contents.state
    (subst (λ (es : List Entry). AreReady c.loop-entry.contents.room es c.loop-entry.contents.state) c.in-Some.ensures.items c.loop-entry.invariant.ready)).1

pub returns-then-undo_entry-clause-undone : goal.returns-then-undo_entry-clause-undone
returns-then-undo_entry-clause-undone c = c.loop-entry.invariant.leads _ c.pop.new.self.items (ends _ _ _ _ _ c.in-Some.ensures.items (sym c.if-undo_entry.ensures.mark) c.if-undo_entry.ensures.state)

pub returns-then-undo_entry-clause-ready : goal.returns-then-undo_entry-clause-ready
returns-then-undo_entry-clause-ready c = ready_after c.loop-entry.contents.room c.undo_entry.new.contents c.pop.new.self.items c.loop-entry.entries.items c.in-Some.entry c.loop-entry.contents.state
    c.in-Some.ensures.items c.loop-entry.invariant.ready c.if-undo_entry.ensures.state c.if-undo_entry.ensures.room

pub returns-then-undo_entry-clause-fewer : goal.returns-then-undo_entry-clause-fewer
returns-then-undo_entry-clause-fewer c = let a = fewer_after c.in-Some.entry c.loop-entry.contents.state c.undo_entry.new.contents.state c.if-undo_entry.ensures.state in let b = c.loop-entry.invariant.fewer in omega arith

pub loop-entry-preserved : goal.loop-entry-preserved
loop-entry-preserved c = record {
  leads = λ s es u. c.loop-entry.invariant.leads s es (goes_back _ _ s _ _ es _ c.in-Some.ensures.items (sym c.if-undo_entry.ensures.mark) c.if-undo_entry.ensures.state u);
  ready = ready_after c.loop-entry.contents.room c.undo_entry.new.contents c.pop.new.self.items c.loop-entry.entries.items c.in-Some.entry c.loop-entry.contents.state
      c.in-Some.ensures.items c.loop-entry.invariant.ready c.if-undo_entry.ensures.state c.if-undo_entry.ensures.room;
  fewer = let a = fewer_after c.in-Some.entry c.loop-entry.contents.state c.undo_entry.new.contents.state c.if-undo_entry.ensures.state in let b = c.loop-entry.invariant.fewer in omega arith;
}
