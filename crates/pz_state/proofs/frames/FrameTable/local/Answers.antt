use Rattle.std.proofs.Common.{List, ap, sym, ◌∙◌, arith}
use Rattle.pz_value.specs.declared.value.Value.{Value}
use Rattle.pz_state.specs.States.{value_at}
use Rattle.pz_state.proofs.Reading.{read_at}
use Rattle.pz_state.proofs.FrameTables.{local_at}
use Rattle.pz_state.proofs.frames.FrameTable.local.Goals as goal

pub overflow_sub-number : goal.overflow_sub-number
overflow_sub-number c = (local_at c.self.inside.table.items c.self.view_is c.args.number c.args.slot c.requires).positive

pub index-requires : goal.index-requires
index-requires c = let p = local_at c.self.inside.table.items c.self.view_is c.args.number c.args.slot c.requires in let q = p.within in let r = c.self.inside.table.ok.0 in omega arith

pub index-requires-in-Some : goal.index-requires-in-Some
index-requires-in-Some c = let p = (local_at c.self.inside.table.items c.self.view_is c.args.number c.args.slot c.requires).local _ c.in-Some.locals c.index.ensures c.in-Some.is in let q = p.0 in let r = c.in-Some.locals.ok.0 in omega arith

pub unreachable-requires : goal.unreachable-requires
unreachable-requires c = (local_at c.self.inside.table.items c.self.view_is c.args.number c.args.slot c.requires).not_closed c.index.result.now c.index.ensures c.in-None.is

pub returns : goal.returns
returns c = let p = (local_at c.self.inside.table.items c.self.view_is c.args.number c.args.slot c.requires).local _ c.in-Some.locals c.index.ensures c.in-Some.is in
    read_at c.in-Some.locals.items c.args.slot _ p.0 c.index-in-Some.ensures ∙ ap (λ (values : List Value). value_at values c.args.slot) (sym p.1)
