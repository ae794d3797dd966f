use Rattle.std.proofs.Common.{◌≡◌, ◌||◌, drop}
use Rattle.std.specs.List.{list_any}
use Rattle.pz_syntax.specs.ClassView.{model_view}
use Rattle.pz_env.specs.devices.Standing.{is_port_at}
use Rattle.pz_env.specs.devices.Ends.{Named, ends_in, has_end}
use Rattle.pz_env.proofs.standing.add_instances.Given as goal

abbrev pub invariant-loop-instance : goal.invariant-loop-instance
invariant-loop-instance l = (e : Named)
    → (has_end (ends_in l.ends) e || list_any (is_port_at (model_view l.model) e) (drop l.instance-index l.instances)) ≡ (has_end (ends_in l.fn.ends) e || list_any (is_port_at (model_view l.model) e) l.instances)
