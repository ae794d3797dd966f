use Rattle.std.proofs.Common.{List, slice_set, ap, sym, ◌∙◌, arith}
use Rattle.std.proofs.lemmas.List.{length-set}
use Rattle.pz_value.specs.declared.value.Value.{Value}
use Rattle.pz_state.proofs.Reading.{set_back}
use Rattle.pz_state.proofs.FrameTables.{local_at, replaced}
use Rattle.pz_state.proofs.frames.FrameTable.replace.Goals as goal

pub overflow_sub-number : goal.overflow_sub-number
overflow_sub-number c = (local_at c.self.inside.table.items c.self.view_is c.args.number c.args.slot c.requires).positive

pub index_mut-requires : goal.index_mut-requires
index_mut-requires c = let p = local_at c.self.inside.table.items c.self.view_is c.args.number c.args.slot c.requires in let q = p.within in let r = c.self.inside.table.ok.0 in omega arith

pub replace-requires : goal.replace-requires
replace-requires c = ((local_at c.self.inside.table.items c.self.view_is c.args.number c.args.slot c.requires).local _ c.in-Some.locals c.index_mut.ensures.value c.in-Some.is).0

pub unreachable-requires : goal.unreachable-requires
unreachable-requires c = (local_at c.self.inside.table.items c.self.view_is c.args.number c.args.slot c.requires).not_closed c.index_mut.result.now c.index_mut.ensures.value c.in-None.is

pub returns-clause-frames : goal.returns-clause-frames
returns-clause-frames c = let p = local_at c.self.inside.table.items c.self.view_is c.args.number c.args.slot c.requires in
    (replaced c.self.inside.table.items c.self.view_is c.args.number _ c.in-Some.locals c.replace.new.values p.positive p.within c.index_mut.ensures.value c.in-Some.is).changes (λ locals. slice_set locals c.args.slot c.args.value) c.replace.ensures.new

pub returns-clause-back : goal.returns-clause-back
returns-clause-back c = let p = local_at c.self.inside.table.items c.self.view_is c.args.number c.args.slot c.requires in
    (replaced c.self.inside.table.items c.self.view_is c.args.number _ c.in-Some.locals c.replace.new.values p.positive p.within c.index_mut.ensures.value c.in-Some.is).back (λ locals. slice_set locals c.args.slot c.replace.result)
    (sym (ap (λ (locals : List Value). slice_set locals c.args.slot c.replace.result) c.replace.ensures.new ∙ set_back c.in-Some.locals.items c.args.slot c.replace.result c.args.value c.replace.ensures.old))

pub returns-clause-there : goal.returns-clause-there
returns-clause-there c = let p = local_at c.self.inside.table.items c.self.view_is c.args.number c.args.slot c.requires in
    let r = (replaced c.self.inside.table.items c.self.view_is c.args.number _ c.in-Some.locals c.replace.new.values p.positive p.within c.index_mut.ensures.value c.in-Some.is).locals in
    let q = (p.local _ c.in-Some.locals c.index_mut.ensures.value c.in-Some.is).0 in
    rw (r, c.replace.ensures.new, length-set) q
