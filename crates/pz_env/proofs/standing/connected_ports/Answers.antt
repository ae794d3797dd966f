use Rattle.std.proofs.Common.{ap, ◌∙◌, ◌||◌, List}
use Rattle.std.specs.List.{list_any}
use Rattle.pz_syntax.specs.declared.clusters.Channel.{Channel}
use Rattle.pz_env.specs.devices.Ends.{Named, has_end}
use Rattle.pz_env.specs.devices.Standing.{is_in_channel}
use Rattle.pz_env.proofs.standing.connected_ports.Goals as goal

pub returns : goal.returns
returns c = λ e.
    c.in_ok-add_channels.ensures e
    ∙ ap (λ (ns : List Named). has_end ns e || list_any (is_in_channel e) c.system_channels.result.now) c.new-ends.ensures
    ∙ ap (λ (xs : List Channel). list_any (is_in_channel e) xs) c.system_channels.ensures
