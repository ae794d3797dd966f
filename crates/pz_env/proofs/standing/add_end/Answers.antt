use Rattle.std.proofs.Common.{◌∙◌}
use Rattle.pz_env.specs.devices.Ends.{ends_in}
use Rattle.pz_env.proofs.Sets.{inner_added}
use Rattle.pz_env.proofs.standing.add_end.Goals as goal

pub returns-in_ok-add : goal.returns-in_ok-add
returns-in_ok-add c = λ e.
    inner_added (ends_in c.args.ends.now) (ends_in c.add.new.self) e c.args.end.now c.in-Inner.instance c.in-Inner.port c.as_bytes-instance.result.now c.as_bytes.result.now
    c.in-Inner.is (c.as_bytes-instance.ensures.value ∙ c.as_str.ensures) (c.as_bytes.ensures.value ∙ c.as_str-in-Inner.ensures) c.in_ok-add.ensures.added
