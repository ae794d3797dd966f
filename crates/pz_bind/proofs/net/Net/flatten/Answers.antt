use Rattle.std.proofs.Common.{◌≡◌, sym, ap, ◌∙◌, subst, ℕ, ◌≤◌, List, length}
use Rattle.std.proofs.lemmas.List.{length-map}
use Rattle.pz_classes.specs.CheckedView.{checked_model}
use Rattle.pz_bind_levels.specs.Layouts.{AreLinked}
use Rattle.pz_bind_levels.specs.devices.Walking.{layouts_of}
use Rattle.pz_bind_rules.specs.Nest.{processes}
use Rattle.pz_bind_rules.specs.Names.{wire_name}
use Rattle.pz_bind_rules.specs.Wires.{wires}
use Rattle.pz_bind.specs.devices.Nets.{node_at}
use Rattle.pz_bind.specs.declared.net.Node.{Node}
use Rattle.pz_bind_rules.specs.devices.Layouts.{layouts}
use Rattle.pz_bind.specs.devices.Sites.{AreLevels}
use Rattle.pz_bind.specs.devices.Processes.{AreProcesses, AreWires}
use Rattle.pz_bind_rules.proofs.Layouts.{are_linked}
use Rattle.pz_bind.proofs.Placed.{expanded_levels, expanded_processes, expanded_wires}
use Rattle.pz_bind.proofs.Counts.{few_processes, few_wires}
use Rattle.pz_bind.proofs.NetFits.{ports_once, expansion_is}
use Rattle.pz_bind.proofs.net.Net.flatten.Goals as goal

pub expand-requires : goal.expand-requires
expand-requires c =
    let m = checked_model c.args.checked.now in
    let plans : layouts_of c.as_slice.result.now ≡ layouts m = ap layouts_of c.as_slice.ensures ∙ c.in_ok-plans.ensures in
    subst AreLinked (sym plans) (are_linked m)

pub sites_of-requires : goal.sites_of-requires
sites_of-requires c =
    let m = checked_model c.args.checked.now in
    let plans : layouts_of c.as_slice.result.now ≡ layouts m = ap layouts_of c.as_slice.ensures ∙ c.in_ok-plans.ensures in
    let is = expansion_is m (layouts_of c.as_slice.result.now) c.system_class.result c.in_ok-expansion.expansion plans c.system_class.ensures c.in_ok-expansion.ensures in
    subst (AreLevels m) (sym c.as_slice-2.ensures) (expanded_levels m c.in_ok-expansion.expansion is)

pub nodes_of-requires-clause-expanded : goal.nodes_of-requires-clause-expanded
nodes_of-requires-clause-expanded c =
    let m = checked_model c.args.checked.now in
    let plans : layouts_of c.as_slice.result.now ≡ layouts m = ap layouts_of c.as_slice.ensures ∙ c.in_ok-plans.ensures in
    let is = expansion_is m (layouts_of c.as_slice.result.now) c.system_class.result c.in_ok-expansion.expansion plans c.system_class.ensures c.in_ok-expansion.ensures in
    subst (AreProcesses m) (sym c.as_slice-4.ensures) (expanded_processes m c.in_ok-expansion.expansion is c.is_sound.ensures.system)

pub wire_names_of-requires-clause-expanded : goal.wire_names_of-requires-clause-expanded
wire_names_of-requires-clause-expanded c =
    let m = checked_model c.args.checked.now in
    let plans : layouts_of c.as_slice.result.now ≡ layouts m = ap layouts_of c.as_slice.ensures ∙ c.in_ok-plans.ensures in
    let is = expansion_is m (layouts_of c.as_slice.result.now) c.system_class.result c.in_ok-expansion.expansion plans c.system_class.ensures c.in_ok-expansion.ensures in
    subst (AreWires m) (sym c.as_slice-6.ensures) (expanded_wires m c.in_ok-expansion.expansion is c.is_sound.ensures.system (ports_once m c.is_sound.ensures.classes))

pub invariant_of-result : goal.invariant_of-result
invariant_of-result c =
    let m = checked_model c.args.checked.now in
    let plans : layouts_of c.as_slice.result.now ≡ layouts m = ap layouts_of c.as_slice.ensures ∙ c.in_ok-plans.ensures in
    let is = expansion_is m (layouts_of c.as_slice.result.now) c.system_class.result c.in_ok-expansion.expansion plans c.system_class.ensures c.in_ok-expansion.ensures in
    let nodes : length c.in_ok-nodes.nodes ≡ length (processes m) = ap (λ (ns : List Node). length ns) c.in_ok-nodes.ensures ∙ length-map (processes m) (node_at m) in
    let names : length c.in_ok-wire_names.wire_names ≡ length (wires m) = ap (λ (ns : List (List ℕ)). length ns) c.in_ok-wire_names.ensures ∙ length-map (wires m) (wire_name m) in
    record {
      few_processes = subst (λ n. n ≤ 10000) (sym nodes) (few_processes m c.is_sound.ensures.system);
      few_wires = subst (λ n. n ≤ 1000000) (sym names) (few_wires m c.is_sound.ensures.system);
      paired = (expanded_processes m c.in_ok-expansion.expansion is c.is_sound.ensures.system).counted ∙ sym nodes;
    }

pub returns : goal.returns
returns c =
    let m = checked_model c.args.checked.now in
    let plans : layouts_of c.as_slice.result.now ≡ layouts m = ap layouts_of c.as_slice.ensures ∙ c.in_ok-plans.ensures in
    record {
      system_fits = c.is_sound.ensures.system;
      classes_fit = c.is_sound.ensures.classes;
      nodes = c.in_ok-nodes.ensures;
      wire_names = c.in_ok-wire_names.ensures;
      plans = c.in_ok-plans.ensures;
      expansion = expansion_is m (layouts_of c.as_slice.result.now) c.system_class.result c.in_ok-expansion.expansion plans c.system_class.ensures c.in_ok-expansion.ensures;
    }
