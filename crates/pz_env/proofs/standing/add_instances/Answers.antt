use Rattle.std.proofs.Common.{ap₂, ◌∙◌, ◌||◌, ℕ, List, arith}
use Rattle.pz_syntax.specs.ClassView.{model_view}
use Rattle.pz_env.specs.devices.Ends.{ends_in, has_end}
use Rattle.pz_env.specs.devices.Standing.{is_port_of, is_port_at}
use Rattle.pz_env.proofs.Sets.{any_step, any_done}
use Rattle.pz_env.proofs.standing.add_instances.Goals as goal

pub loop-instance-preserved : goal.loop-instance-preserved
loop-instance-preserved c = λ e.
    any_step (is_port_at (model_view c.args.model.now) e) c.args.instances.now c.instance-item.result c.loop-instance.instance-index _ _ _ _ c.loop-instance-test.true c.instance-item.is (omega arith)
    (c.in_ok-add_ports.ensures e ∙ ap₂ (λ (i : List ℕ) (ps : List (List ℕ)). has_end (ends_in c.loop-instance.ends) e || is_port_of i ps e) (c.as_bytes.ensures.value ∙ c.as_str.ensures) c.ports_of-ports.ensures)
    (c.loop-instance.invariant e)

pub returns : goal.returns
returns c = λ e. any_done (is_port_at (model_view c.args.model.now) e) c.args.instances.now c.loop-instance.instance-index _ _ (omega arith) (c.loop-instance.invariant e)
