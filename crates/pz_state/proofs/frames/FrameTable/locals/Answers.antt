use Rattle.std.proofs.Common.{ap, sym, ◌∙◌, arith}
use Rattle.pz_state.proofs.FrameTables.{items_of}
use Rattle.pz_state.proofs.FrameLocals.{or_none, none_at_zero, none_past, locals_at}
use Rattle.pz_state.proofs.frames.FrameTable.locals.Goals as goal

pub returns-then-number-eq0 : goal.returns-then-number-eq0
returns-then-number-eq0 c = none_at_zero c.self.inside.table.items c.self.view_is c.args.number c.if-number-eq0.true

pub returns-then-number-last : goal.returns-then-number-last
returns-then-number-last c = none_past c.self.inside.table.items c.self.view_is c.args.number (omega (arith, c.len-last.ensures, c.if-number-last.true))

pub returns-in-Some : goal.returns-in-Some
returns-in-Some c =
    c.as_slice.ensures.value ∙ sym (ap or_none (ap items_of c.in-Some.is))
    ∙ locals_at c.self.inside.table.items c.self.view_is c.args.number _ (omega (arith, c.if-number-eq0.false)) (omega (arith, c.len-last.ensures, c.if-number-last.false, c.if-number-eq0.false)) c.index.ensures

pub returns-in-None : goal.returns-in-None
returns-in-None c =
    sym (ap or_none (ap items_of c.in-None.is))
    ∙ locals_at c.self.inside.table.items c.self.view_is c.args.number _ (omega (arith, c.if-number-eq0.false)) (omega (arith, c.len-last.ensures, c.if-number-last.false, c.if-number-eq0.false)) c.index.ensures
