use Rattle.std.proofs.Common.{◌≡◌, ◌≤◌, ◌+◌, length, None, arith, rules}
use Rattle.std.proofs.lemmas.Result.{IfOk-weaker}
use Rattle.pz_nodes.specs.Arena.{find}
use Rattle.pz_term_around.specs.pz_part_opening.Homes.{home_view}
use Rattle.pz_rules.specs.View.{term_view}
use Rattle.pz_tree_nodes.specs.Dropping.{numbers}
use Rattle.pz_tree_nodes.specs.View.{head_view}
use Rattle.pz_tree_nodes.specs.Planting.{EndsInTime}
use Rattle.pz_tree_regrowing.specs.Regrowing.{at_work, RegrowRule}
use Rattle.pz_tree_regrowing.specs.devices.Levels.{FinishRule}
use Rattle.pz_tree_regrowing.specs.devices.Rounds.{ReplantRule, BareRegrowRule}
use Rattle.pz_tree_regrowing.proofs.Rounds.{sooner_ends, regrown_here, nothing_acts, level_regrown, none_taken, bare_regrown, shift_regrown}
use Rattle.pz_tree_regrowing.proofs.Writes.{none_long}
use Rattle.pz_tree_regrowing.proofs.regrowing.+regrowing.Goals as goal

pub regrow_bare-regrow_part-requires : goal.regrow_bare-regrow_part-requires
regrow_bare-regrow_part-requires g t c =
    let ends : EndsInTime c.child_of-child.result.clock (term_view c.args.part) = sooner_ends c.child_of-child.result.clock c.args.spot.clock (term_view c.args.part) c.child_of-child.ensures.clock c.requires in
    let short : length c.in-Some.rest.now + 1 ≡ length c.args.place.now = c.in-Some.ensures.cases.1 in
    search (rules, ends, short)

pub regrow_bare-returns-in_default : goal.regrow_bare-returns-in_default
regrow_bare-returns-in_default g t c =
    let home = home_view c.args.home.now in
    let spot = c.args.spot in
    let m = find c.args.nodes.now in
    let n = find c.replant.new.nodes in
    let s = c.args.state.now in
    let lost = numbers c.args.lost.now.items in
    let fresh = c.args.gained.now.items in
    let x = term_view c.args.part in
    let old = c.args.steps.now in
    let new = c.replant.new.steps in
    IfOk-weaker c.replant.result (λ out. ReplantRule m n spot.key spot.clock x out old new)
    (λ out. BareRegrowRule home spot.key spot.frame.0 spot.clock c.args.place.now x out (at_work m s lost fresh old) (at_work n s lost fresh new))
    (λ out r. regrown_here home m n spot.key spot.frame.0 spot.clock c.args.place.now x out s lost fresh old new (none_long c.args.place.now c.in_default.ensures.cases) r) c.replant.ensures

pub regrow_bare-returns-in_default-key : goal.regrow_bare-returns-in_default-key
regrow_bare-returns-in_default-key g t c =
    let home = home_view c.args.home.now in
    let spot = c.args.spot in
    let m = find c.args.nodes.now in
    let a = at_work m c.args.state.now (numbers c.args.lost.now.items) c.args.gained.now.items c.args.steps.now in
    nothing_acts home m m spot.key spot.frame.0 spot.clock c.in-Some.number.now c.args.place.now c.in-Some.rest.now (term_view c.args.part) None a a c.in_default-key.is c.in-Some.ensures.cases.0

pub regrow_bare-returns-in_default-take : goal.regrow_bare-returns-in_default-take
regrow_bare-returns-in_default-take g t c =
    let spot = c.args.spot in
    let child = c.child_of-child.result in
    let lost = numbers c.args.lost.now.items in
    let found = numbers c.regrow_part.new.lost.items in
    let grown = c.regrow_part.new.gained.items in
    none_taken (home_view c.args.home.now) (find c.args.nodes.now) (find c.regrow_part.new.nodes) (find c.take.new.nodes) c.in-Some-key.key spot.key spot.frame.0 spot.clock c.in-Some.number.now
    c.args.place.now c.in-Some.rest.now (term_view c.args.part) child.key c.in_ok-left.left None child.frame.0 child.clock c.args.state.now c.regrow_part.new.state c.regrow_part.new.state lost found found c.args.gained.now.items grown grown
    c.args.steps.now c.child_of-child.new.steps c.regrow_part.new.steps c.take.new.steps c.in-Some-key.is c.in-Some.ensures.cases.0 c.child_of-child.ensures.child c.child_of-child.ensures.clock c.in_ok-left.ensures c.in_default-take.ensures.taken

pub regrow_bare-returns : goal.regrow_bare-returns
regrow_bare-returns g t c =
    let home = home_view c.args.home.now in
    let spot = c.args.spot in
    let child = c.child_of-child.result in
    let place = c.args.place.now in
    let x = term_view c.args.part in
    let key = c.in-Some-key.key in
    let i = c.in-Some.number.now in
    let taken = c.in-Some-take.taken in
    let m = find c.args.nodes.now in
    let m1 = find c.regrow_part.new.nodes in
    let m2 = find c.take.new.nodes in
    let n = find c.finish.new.nodes in
    let s = c.args.state.now in
    let mid = c.regrow_part.new.state in
    let last = c.finish.new.state in
    let lost = numbers c.args.lost.now.items in
    let found = numbers c.regrow_part.new.lost.items in
    let all = numbers c.finish.new.lost.items in
    let fresh = c.args.gained.now.items in
    let further = c.regrow_part.new.gained.items in
    let grown = c.finish.new.gained.items in
    let old = c.args.steps.now in
    let begun = c.child_of-child.new.steps in
    let back = c.regrow_part.new.steps in
    let after = c.take.new.steps in
    let new = c.finish.new.steps in
    IfOk-weaker c.finish.result (λ out. FinishRule home spot.frame.0 spot.clock key (head_view taken.head) taken.kids i out (at_work m2 mid found further after) (at_work n last all grown new))
    (λ out. BareRegrowRule home spot.key spot.frame.0 spot.clock place x out (at_work m s lost fresh old) (at_work n last all grown new))
    (λ out r. level_regrown home m m1 m2 n key spot.key spot.frame.0 spot.clock i place c.in-Some.rest.now x child.key c.in_ok-left.left out child.frame.0 child.clock s mid last lost found all fresh further grown old begun back after new taken.head taken.kids
    c.in-Some-key.is c.in-Some.ensures.cases.0 c.child_of-child.ensures.child c.child_of-child.ensures.clock c.child_of-child.ensures.ticks c.in_ok-left.ensures c.in-Some-take.ensures.taken c.take.ensures.ticks r) c.finish.ensures

pub regrow_part-regrow_bare-requires-2 : goal.regrow_part-regrow_bare-requires-2
regrow_part-regrow_bare-requires-2 g t c =
    let less : c.saturating_sub.result ≤ c.args.spot.clock = omega (arith, c.saturating_sub.ensures) in
    let ends : EndsInTime c.saturating_sub.result (term_view c.args.part) = sooner_ends c.saturating_sub.result c.args.spot.clock (term_view c.args.part) less c.requires in
    search (rules, ends)

pub regrow_part-returns-in_default-shift_at : goal.regrow_part-returns-in_default-shift_at
regrow_part-returns-in_default-shift_at g t c =
    let home = home_view c.args.home.now in
    let spot = c.args.spot in
    let x = term_view c.args.part in
    let m = find c.args.nodes.now in
    let n = find c.regrow_bare-in_default-shift_at.new.nodes in
    let s = c.args.state.now in
    let end = c.regrow_bare-in_default-shift_at.new.state in
    let lost = numbers c.args.lost.now.items in
    let found = numbers c.regrow_bare-in_default-shift_at.new.lost.items in
    let fresh = c.args.gained.now.items in
    let grown = c.regrow_bare-in_default-shift_at.new.gained.items in
    let old = c.args.steps.now in
    let begun = c.shift_at.new.steps in
    let new = c.regrow_bare-in_default-shift_at.new.steps in
    IfOk-weaker c.regrow_bare-in_default-shift_at.result (λ out. BareRegrowRule home spot.key spot.frame.0 spot.clock c.args.place.now x out (at_work m s lost fresh begun) (at_work n end found grown new))
    (λ out. RegrowRule home spot.key spot.frame.0 spot.clock c.args.place.now x out (at_work m s lost fresh old) (at_work n end found grown new))
    (λ out r. bare_regrown home spot.key c.in-Some.key spot.frame.0 spot.clock c.args.place.now x out m n s end lost found fresh grown old begun new c.in-Some.is c.in_default-shift_at.ensures.shift c.shift_at.ensures.ticks r) c.regrow_bare-in_default-shift_at.ensures

pub regrow_part-returns : goal.regrow_part-returns
regrow_part-returns g t c =
    let home = home_view c.args.home.now in
    let spot = c.args.spot in
    let place = c.args.place.now in
    let x = term_view c.args.part in
    let key = c.in-Some.key in
    let shift = c.in-Some-shift_at.shift in
    let m = find c.args.nodes.now in
    let m1 = find c.regrow_bare-2.new.nodes in
    let n = find c.put_shift.new.nodes in
    let s = c.args.state.now in
    let end = c.regrow_bare-2.new.state in
    let lost = numbers c.args.lost.now.items in
    let found = numbers c.regrow_bare-2.new.lost.items in
    let fresh = c.args.gained.now.items in
    let grown = c.regrow_bare-2.new.gained.items in
    let old = c.args.steps.now in
    let begun = c.shift_at.new.steps in
    let back = c.regrow_bare-2.new.steps in
    let new = c.put_shift.new.steps in
    shift_regrown home m m1 n spot.key key spot.frame.0 spot.clock place x c.in_ok-left.left c.put_shift.result s end lost found fresh grown old begun back new shift.by c.saturating_sub.result shift.below
    c.in-Some.is c.in-Some-shift_at.ensures.shift c.shift_at.ensures.ticks c.saturating_sub.ensures c.in_ok-left.ensures c.put_shift.ensures
