use Rattle.std.proofs.Common.{get_or, arith}
use Rattle.pz_classes.specs.CheckedView.{checked_model}
use Rattle.pz_bind_levels.specs.declared.expansion.Process.{Process}
use Rattle.pz_bind_rules.specs.Nest.{processes}
use Rattle.pz_bind.specs.devices.Nets.{node_at}
use Rattle.pz_bind.proofs.SiteSteps.{process_place, process_placed, mapped_step}
use Rattle.pz_bind.proofs.nodes.nodes_of.Goals as goal

abbrev nothing : Process
nothing = record { class = 0; standing = record { level = 0; part = 0 } }

pub node_of-requires : goal.node_of-requires
node_of-requires c =
    let m = checked_model c.args.checked.now in
    let p = process_place m c.args.processes.now nothing c.loop-process.process-index c.requires.expanded c.loop-process-test.true in
    (process_placed m c.args.sites.now (get_or c.args.processes.now c.loop-process.process-index nothing) p.0 c.requires.known p.2).0

pub loop-process-preserved : goal.loop-process-preserved
loop-process-preserved c =
    let m = checked_model c.args.checked.now in
    let p = process_place m c.args.processes.now nothing c.loop-process.process-index c.requires.expanded c.loop-process-test.true in
    mapped_step (node_at m) (processes m) p.0 c.loop-process.process-index _ c.loop-process.nodes _ _ p.1 (omega arith) c.in_ok-push.ensures.ok
    (c.in_ok-node_of.ensures p.0 (process_placed m c.args.sites.now (get_or c.args.processes.now c.loop-process.process-index nothing) p.0 c.requires.known p.2).1 p.2.class) c.loop-process.invariant
