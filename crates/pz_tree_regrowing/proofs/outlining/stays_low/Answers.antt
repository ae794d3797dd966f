use Rattle.std.proofs.Common.{arith}
use Rattle.pz_nodes.specs.Arena.{find}
use Rattle.pz_term_around.specs.pz_part_opening.Homes.{home_view}
use Rattle.pz_rules.specs.View.{term_view}
use Rattle.pz_tree_regrowing.proofs.Descending.{low_after, few_after}
use Rattle.pz_tree_regrowing.proofs.outlining.stays_low.Goals as goal

pub returns : goal.returns
returns g c = record {
  low = low_after (home_view c.args.home.now) (find c.args.nodes.now) c.args.root c.args.place.now (term_view c.args.part.now) c.outline_of.result c.outline_after-after.result c.args.steps.now c.outline_after-after.new.steps
      c.from.result c.args.limit c.outline_of.ensures c.outline_after-after.ensures c.from.ensures (omega arith);
  ticks = few_after (home_view c.args.home.now) (find c.args.nodes.now) c.args.root c.args.place.now c.outline_of.result c.outline_after-after.result c.args.steps.now c.outline_after-after.new.steps c.outline_after-after.ensures;
}
