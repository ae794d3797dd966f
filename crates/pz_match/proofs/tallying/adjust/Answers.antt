-- One tally is replaced by what is left of it.
use Rattle.pz_match.proofs.Grouped.{moves_with, follows_change, count_change, ok_one, ok_both}
use Rattle.pz_match.proofs.tallying.adjust.Goals as goal

pub returns-clause-follows : goal.returns-clause-follows
returns-clause-follows c = ok_both c.change.result (follows_change c.args.groups.now c.change.new.self c.args.number c.in-Some-minus.tally) c.change.ensures.groups c.change.ensures.wires

pub returns-clause-moves : goal.returns-clause-moves
returns-clause-moves c =
    ok_one c.change.result (moves_with c.args.groups.now c.change.new.self c.args.number c.in-Some.both c.in-Some-minus.tally c.args.less c.args.more c.requires
    (rw (← c.tally.ensures) c.in-Some.ensures) c.in-Some-minus.ensures) c.change.ensures.groups

pub returns-clause-count : goal.returns-clause-count
returns-clause-count c = ok_one c.change.result (count_change c.args.groups.now c.change.new.self c.args.number c.in-Some-minus.tally) c.change.ensures.groups
