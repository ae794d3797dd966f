use Rattle.std.proofs.Common.{sym, subst, ◌<◌, length, List}
use Rattle.pz_bind_levels.specs.declared.expansion.Process.{Process}
use Rattle.pz_bind_levels.specs.declared.plan.Plan.{Plan}
use Rattle.pz_bind_levels.specs.devices.Walking.{layouts_of}
use Rattle.pz_bind.proofs.NetFits.{Said, wire_says, narrowed_says}
use Rattle.pz_bind.proofs.net.Net.wire.Goals as goal

abbrev nothing : Process
nothing = record { class = 0; standing = record { level = 0; part = 0 } }

pub returns : goal.returns
returns c = λ m place name is there port_at.
    let net = c.args.self.now in
    let processes = c.as_slice.ensures in
    let plans = c.as_slice-2.ensures in
    let within : c.args.process < length net.expansion.processes = subst (λ n. c.args.process < n) (sym net.paired) c.requires in
    let said : Said net.expansion c.args.process c.args.port nothing c.wire.result (layouts_of c.as_slice-2.result.now) c.as_slice.result.now = c.wire.ensures in
    let of_plans = subst (λ (ps : List Plan). Said net.expansion c.args.process c.args.port nothing c.wire.result (layouts_of ps) c.as_slice.result.now) plans said in
    narrowed_says m net is place name c.wire.result c.narrowed.result c.narrowed.ensures
    (wire_says m net is c.args.process c.args.port place name nothing c.wire.result there port_at within
    (subst (Said net.expansion c.args.process c.args.port nothing c.wire.result (layouts_of net.plans)) processes of_plans))
