use Rattle.pz_classes_lineage.specs.Parents.{parent_in}
use Rattle.pz_classes_lineage.proofs.CycleFound.{found_cycle}
use Rattle.pz_classes_lineage.proofs.cycles.search_from.Goals as goal

pub returns-in-Some-clause-found : goal.returns-in-Some-clause-found
returns-in-Some-clause-found c =
    found_cycle (parent_in c.args.parents.now) c.args.walks.now c.walk_up.new.walks c.args.marks.now c.requires.found c.in-Some.class c.mark_up.new.marks c.in-Some.ensures.found c.mark_up.ensures
