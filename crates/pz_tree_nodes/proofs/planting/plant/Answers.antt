use Rattle.pz_tree_nodes.proofs.planting.plant.Goals as goal

pub returns-clause-planted : goal.returns-clause-planted
returns-clause-planted g c = (c.in_ok-part.ensures c.requires).planted

pub returns-clause-ticks : goal.returns-clause-ticks
returns-clause-ticks g c = (c.in_ok-part.ensures c.requires).ticks
