use Rattle.std.proofs.Common.{length, ◌+◌}
use Rattle.std.specs.Prelude.{◌++◌}
use Rattle.pz_format.specs.Levels.{start, behind}
use Rattle.pz_format.specs.Layout.{text_behind}
use Rattle.pz_format.proofs.Putting.{put_more, level_more}
use Rattle.pz_format.proofs.formatting.put_others.Goals as goal

pub pieces-preserved : goal.pieces-preserved
pieces-preserved c =
    let levels = level_more c.pieces.level c.behind-level-in-Some.result c.in-Some.piece.now c.pieces.rest.now c.in-Some.after.now (1 + length c.args.others.now) c.behind-level-in-Some.ensures c.in-Some.ensures.cases.0 c.pieces.invariant.1 c.pieces.invariant.2 in (
      put_more (c.args.text.now.items ++ text_behind (behind start c.args.first.now) c.args.first.now c.args.others.now)
          c.pieces.text.items c.put_gap.new.text.items c.put_piece.new.out.items c.pieces.level c.behind-level-in-Some.result c.pieces.before.now c.in-Some.piece.now c.pieces.rest.now c.in-Some.after.now
          c.pieces.invariant.0 c.in-Some.ensures.cases.0 c.in_ok-put_gap.ensures c.in_ok-put_piece.ensures c.behind-level-in-Some.ensures,
      levels.0,
      levels.1,
    )
