use Rattle.std.proofs.Common.{◌≡◌, ◌+◌, ◌*◌, drop}
use Rattle.pz_nodes.specs.Arena.{find}
use Rattle.pz_rules.proofs.term.Term.TheLaws.{the_size}
use Rattle.std.proofs.Common.{max}
use denote.Param.Weighed.{most}
use Rattle.pz_tree_nodes.specs.devices.Parts.{PlantsOn}
use Rattle.pz_tree_nodes.proofs.planting.+planting.Given as goal

abbrev pub invariant-plant_all-loop-index : goal.invariant-plant_all-loop-index
invariant-plant_all-loop-index g l = record {
  on : PlantsOn (find l.initial.nodes) (find l.nodes) l.clock l.initial.left.items l.index l.keys.items l.kept l.initial.steps l.steps;
  still : drop l.index l.left.items ≡ drop l.index l.initial.left.items;
}

-- the depth comes first; at one depth, the form of a part comes before two parts, these before a box, and a box before
-- its term
abbrev pub decreases-plant_part : goal.decreases-plant_part
decreases-plant_part g l = 4 * goal.size-plant_part g l

abbrev pub decreases-plant_boxed : goal.decreases-plant_boxed
decreases-plant_boxed g l = 4 * goal.size-plant_boxed g l + 1

abbrev pub decreases-plant_two : goal.decreases-plant_two
decreases-plant_two g l = 4 * max (the_size l.first) (the_size l.second) + 2

abbrev pub decreases-plant_all : goal.decreases-plant_all
decreases-plant_all g l = 4 * goal.size-plant_all g l + 1

abbrev pub decreases-plant_sequence : goal.decreases-plant_sequence
decreases-plant_sequence g l = 4 * the_size l.part + 2

abbrev pub decreases-plant_parallel : goal.decreases-plant_parallel
decreases-plant_parallel g l = 4 * most the_size l.parts + 2

abbrev pub decreases-plant_select : goal.decreases-plant_select
decreases-plant_select g l = 4 * most the_size l.parts + 2

abbrev pub decreases-plant_guard : goal.decreases-plant_guard
decreases-plant_guard g l = 4 * the_size l.body + 2

abbrev pub decreases-plant_frame : goal.decreases-plant_frame
decreases-plant_frame g l = 4 * the_size l.body + 2

abbrev pub decreases-plant_abort : goal.decreases-plant_abort
decreases-plant_abort g l = 4 * max (the_size l.first) (the_size l.second) + 3

abbrev pub decreases-plant_idle : goal.decreases-plant_idle
decreases-plant_idle g l = 4 * max (the_size l.first) (the_size l.second) + 3

abbrev pub decreases-plant_handling : goal.decreases-plant_handling
decreases-plant_handling g l = 4 * max (the_size l.first) (the_size l.second) + 3
