use Rattle.std.proofs.Common.{ap, ◌∙◌, ◌||◌, List}
use Rattle.std.specs.List.{list_any}
use Rattle.pz_syntax.specs.declared.clusters.Instance.{Instance}
use Rattle.pz_syntax.specs.ClassView.{model_view}
use Rattle.pz_env.specs.devices.Ends.{Named, has_end}
use Rattle.pz_env.specs.devices.Standing.{is_port_at}
use Rattle.pz_env.proofs.standing.system_ports.Goals as goal

pub returns : goal.returns
returns c = λ e.
    c.in_ok-add_instances.ensures e
    ∙ ap (λ (ns : List Named). has_end ns e || list_any (is_port_at (model_view c.args.model.now) e) c.system_instances.result.now) c.new-ends.ensures
    ∙ ap (λ (xs : List Instance). list_any (is_port_at (model_view c.args.model.now) e) xs) c.system_instances.ensures
