-- What a search finds, or where it would be.
use Rattle.std.proofs.Common.{◌<◌, refl, get_or, arith}
use Rattle.pz_match_lists.proofs.Inserting.{wanting, found_below, found_behind}
use Rattle.pz_match_lists.proofs.numbers.below.Goals as goal

pub returns-in-Ok-clause-before : goal.returns-in-Ok-clause-before
returns-in-Ok-clause-before c k lt = found_below c.args.numbers.now c.in-Ok.place c.args.number c.requires c.in-Ok.ensures.position k lt

pub returns-in-Ok-clause-behind : goal.returns-in-Ok-clause-behind
returns-in-Ok-clause-behind c k le lt = found_behind c.args.numbers.now c.in-Ok.place c.args.number c.requires c.in-Ok.ensures.position k le lt

pub returns-in-Ok-2-clause-before : goal.returns-in-Ok-2-clause-before
returns-in-Ok-2-clause-before c k lt = (wanting c.args.numbers.now c.args.numbers.now c.in-Ok.place c.args.number refl c.requires c.in-Ok.ensures.position).1 k lt

pub returns-in-Ok-2-clause-behind : goal.returns-in-Ok-2-clause-behind
returns-in-Ok-2-clause-behind c k le lt =
    let above : c.args.number < get_or c.args.numbers.now k 0 = (wanting c.args.numbers.now c.args.numbers.now c.in-Ok.place c.args.number refl c.requires c.in-Ok.ensures.position).2 k le lt in
    omega (arith, above)
