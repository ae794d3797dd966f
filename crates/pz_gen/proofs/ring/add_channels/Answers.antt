use Rattle.std.proofs.Common.{◌∙◌, ap, ℕ, List, ◌++◌, codes}
use Rattle.pz_gen.specs.Ring.{name, channel}
use Rattle.pz_gen.proofs.Stations.{goes_on}
use Rattle.pz_gen.proofs.ring.add_channels.Goals as goal

pub loop-i-preserved : goal.loop-i-preserved
loop-i-preserved c =
    let to : ℕ → List ℕ = λ k. codes "{" ++ (name c.loop-i.i-counter ++ (codes ".right, " ++ (name k ++ codes ".left}\n"))) in
    goes_on (channel c.args.n) c.loop-i.i-counter _ _ _ _ c.loop-i.invariant c.in_ok-push_str.ensures.bytes (c.as_str.ensures.value ∙ c.in_ok-line.ensures.ok ∙ ap to c.station_behind-next.ensures)
