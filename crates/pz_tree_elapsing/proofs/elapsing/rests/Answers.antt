use Rattle.std.proofs.Common.{◌≡◌, ◌+◌, ◌*◌, ◌∙◌, Bool, true, false, not, refl, sym, arith}
use Rattle.pz_nodes.specs.Arena.{find}
use Rattle.pz_tree_elapsing.proofs.Levels.{all_elapsed, sleeps_at, fewer_steps}
use Rattle.pz_tree_elapsing.proofs.elapsing.rests.Goals as goal

slept : (b : Bool) → not b ≡ true → b ≡ false
slept false e = refl
slept true e = absurd cc

pub returns-in-Some-clause-rests : goal.returns-in-Some-clause-rests
returns-in-Some-clause-rests g c = λ is b.
    let was = c.in-Some.node.now in
    let m = find c.args.nodes.now in
    let f = c.args.root.frame.0 in
    let clock = c.args.root.clock in
    let key = c.args.root.key in
    let fuel = 2 * was.what.kept.height in
    let mid = c.get.new.steps in
    fewer_steps b m m key f clock c.args.steps.now (mid + 1) mid (omega arith)
    (all_elapsed c.nodes_are_no_deeper.ensures.law c.unclocked_is_timeless.ensures.methods c.passing_is_computed.ensures.some
    b m m f clock key fuel was.what.kept c.args.steps.now mid (mid + 1) was (sym c.in-Some.ensures.value) refl c.in-Some.ensures.ticks
    (sleeps_at c.steady_terms_keep_summaries.ensures.tests c.still_right.ensures.computed c.still_right.ensures.computed_sound c.unwoken_nodes_stay.ensures.calm c.unwoken_nodes_stay.ensures.steady
    b m f clock fuel key was.what.kept mid (mid + 1) was (sym c.in-Some.ensures.value) refl (sym c.wakes.ensures ∙ slept c.wakes.result is) refl))
