use Rattle.std.proofs.Common.{◌≡◌, take}
use Rattle.pz_check_size.specs.devices.LeadingBack.{edges}
use Rattle.pz_check_size.proofs.leading_back.edges_of.Given as goal

abbrev pub invariant-loop-node : goal.invariant-loop-node
invariant-loop-node l = l.edges ≡ edges (take l.node-index l.nodes)
