use Rattle.pz_sim.proofs.choosing.take_kth.Goals as goal

pub act_kth-requires-clause-action : goal.act_kth-requires-clause-action
act_kth-requires-clause-action g c = (c.args.k, c.in-Some.ensures)

pub hand_over_kth-requires-clause-past : goal.hand_over_kth-requires-clause-past
hand_over_kth-requires-clause-past g c = c.in-None.ensures

pub returns-in-Some-clause-leads : goal.returns-in-Some-clause-leads
returns-in-Some-clause-leads g c = c.act_kth.ensures.leads c.args.k c.in-Some.ensures

pub returns-in-Some-clause-ticks : goal.returns-in-Some-clause-ticks
returns-in-Some-clause-ticks g c = c.act_kth.ensures.ticks c.args.k c.in-Some.ensures
