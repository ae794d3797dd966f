use Rattle.std.proofs.Common.{sym, ◌∙◌, arith}
use Rattle.std.proofs.lemmas.List.{length-set}
use Rattle.pz_state.proofs.FrameTables.{has_place_seen, not_empty_seen, closed}
use Rattle.pz_state.proofs.frames.FrameTable.close.Goals as goal

pub overflow_sub-number : goal.overflow_sub-number
overflow_sub-number c = (has_place_seen c.self.inside.table.items c.self.view_is c.args.number c.requires).0

pub overflow_sub-number-2 : goal.overflow_sub-number-2
overflow_sub-number-2 c = (has_place_seen c.self.inside.table.items c.self.view_is c.args.number c.requires).0

pub index_mut-requires : goal.index_mut-requires
index_mut-requires c = let p = has_place_seen c.self.inside.table.items c.self.view_is c.args.number c.requires in let r = c.self.inside.table.ok.0 in omega (arith, p.1)

pub set-requires : goal.set-requires
set-requires c = let p = has_place_seen c.self.inside.table.items c.self.view_is c.args.number c.requires in let fits = c.self.invariant.fits in omega (arith, p.0, p.1)

pub unreachable-requires : goal.unreachable-requires
unreachable-requires c = not_empty_seen c.self.inside.table.items c.self.view_is c.args.number _ c.requires c.index_mut.ensures.value (sym c.replace-frame.ensures.value ∙ c.in-None.is)

pub returns-clause-frames : goal.returns-clause-frames
returns-clause-frames c = let p = has_place_seen c.self.inside.table.items c.self.view_is c.args.number c.requires in
    (closed c.self.inside.table.items c.self.view_is c.args.number _ c.replace-frame.new.dest c.in-Some.locals p.0 p.1 c.index_mut.ensures.value (sym c.replace-frame.ensures.value ∙ c.in-Some.is) c.replace-frame.ensures.after).changes

pub returns-clause-back : goal.returns-clause-back
returns-clause-back c = let p = has_place_seen c.self.inside.table.items c.self.view_is c.args.number c.requires in
    (closed c.self.inside.table.items c.self.view_is c.args.number _ c.replace-frame.new.dest c.in-Some.locals p.0 p.1 c.index_mut.ensures.value (sym c.replace-frame.ensures.value ∙ c.in-Some.is) c.replace-frame.ensures.after).back

pub returns-clause-free : goal.returns-clause-free
returns-clause-free c = let p = has_place_seen c.self.inside.table.items c.self.view_is c.args.number c.requires in
    (closed c.self.inside.table.items c.self.view_is c.args.number _ c.replace-frame.new.dest c.in-Some.locals p.0 p.1 c.index_mut.ensures.value (sym c.replace-frame.ensures.value ∙ c.in-Some.is) c.replace-frame.ensures.after).free

pub returns-clause-within : goal.returns-clause-within
returns-clause-within c = let p = has_place_seen c.self.inside.table.items c.self.view_is c.args.number c.requires in (p.0, rw length-set (omega (arith, p.0, p.1)))
