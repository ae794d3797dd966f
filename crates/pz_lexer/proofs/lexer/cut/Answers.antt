use Rattle.std.proofs.Common.{arith}
use Rattle.pz_lexer.proofs.CutReads.{cut_start, cut_bounds, cut_more, cut_stop}
use Rattle.pz_lexer.proofs.lexer.cut.Goals as goal

pub pieces-init : goal.pieces-init
pieces-init c = cut_start c.args.text.now c.new-pieces.result.items c.new-pieces.ensures.items

pub place_after-pos-requires-clause-line : goal.place_after-pos-requires-clause-line
place_after-pos-requires-clause-line c =
    omega (arith, c.requires, (cut_bounds c.args.text.now c.pieces.rest.now c.pieces.pos c.pieces.pieces.items c.pieces.invariant).0, c.in-Ok.ensures.within, c.split_at.ensures.front_len)

pub place_after-pos-requires-clause-column : goal.place_after-pos-requires-clause-column
place_after-pos-requires-clause-column c =
    omega (arith, c.requires, (cut_bounds c.args.text.now c.pieces.rest.now c.pieces.pos c.pieces.pieces.items c.pieces.invariant).1, c.in-Ok.ensures.within, c.split_at.ensures.front_len)

pub pieces-preserved : goal.pieces-preserved
pieces-preserved c =
    cut_more c.args.text.now c.pieces.rest.now c.pieces.pos c.pieces.pieces.items c.pieces.invariant c.in-Ok.found
    c.split_at.result.0.now c.split_at.result.1.now c.place_after-pos.result c.keep.new.pieces.items
    c.in-Ok.ensures c.split_at.ensures.front c.split_at.ensures.back c.in_ok-keep-in-Ok.ensures c.place_after-pos.ensures

pub refusal-requires-clause-line : goal.refusal-requires-clause-line
refusal-requires-clause-line c =
    omega (arith, c.requires, (cut_bounds c.args.text.now c.pieces.rest.now c.pieces.pos c.pieces.pieces.items c.pieces.invariant).0)

pub refusal-requires-clause-column : goal.refusal-requires-clause-column
refusal-requires-clause-column c =
    omega (arith, c.requires, (cut_bounds c.args.text.now c.pieces.rest.now c.pieces.pos c.pieces.pieces.items c.pieces.invariant).1)

pub returns-in-Err-clause-refusal : goal.returns-in-Err-clause-refusal
returns-in-Err-clause-refusal c =
    cut_stop c.args.text.now c.pieces.rest.now c.pieces.pos c.pieces.pieces.items c.pieces.invariant c.in-Err.stop c.refusal.result c.in-Err.ensures c.refusal.ensures
