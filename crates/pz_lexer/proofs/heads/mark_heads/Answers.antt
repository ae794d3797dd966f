use Rattle.std.proofs.Common.{◌-◌, arith, get_or}
use Rattle.std.proofs.lemmas.List.{get_or_default}
use Rattle.pz_lexer.proofs.HeadMarks.{marked_more, marked_all}
use Rattle.pz_lexer.proofs.heads.mark_heads.Goals as goal

pub pieces-preserved : goal.pieces-preserved
pieces-preserved c =
    let pieces = c.pieces.pieces in
    let i = c.pieces.left - 1 in
    let default = c.index-pieces-left.result in
    let piece = get_or pieces i default in
    marked_more c.pieces.left i c.args.pieces.now pieces c.pieces.following c.mark.new.self piece c.mark.new.piece
    c.pieces.invariant (omega arith) (get_or_default pieces i default piece (omega (arith, c.pieces.invariant.within, c.pieces.invariant.same_len))) c.in_ok-mark.ensures

pub returns : goal.returns
returns c = marked_all c.args.pieces.now c.pieces.pieces c.pieces.following c.pieces.left (omega arith) c.pieces.invariant
