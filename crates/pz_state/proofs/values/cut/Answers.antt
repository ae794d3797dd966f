use Rattle.std.proofs.Common.{length, reverse, ap, arith, length-append}
use Rattle.std.proofs.lemmas.List.{length-reverse}
use Rattle.pz_state.proofs.values.cut.Goals as goal

pub returns-clause-fits : goal.returns-clause-fits
returns-clause-fits c = let whole = ap length c.move_last.ensures.back in
    let a = length-append c.move_last.new.values.items (reverse c.move_last.new.cut.items) in let b = length-reverse c.move_last.new.cut.items in
    let room = c.move_last.ensures.room in let ok = c.args.values.now.ok in omega (arith, ok.0, ok.1)
