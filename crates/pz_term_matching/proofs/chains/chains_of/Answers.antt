use Rattle.std.proofs.Common.{◌≡◌, ◌+◌, ◌-◌, subst, ℕ, arith}
use Rattle.pz_term_matching.specs.devices.Chains.{AreChainsFrom}
use Rattle.pz_term_matching.proofs.chains.chains_of.Goals as goal

pub add-requires-clause-behind : goal.add-requires-clause-behind
add-requires-clause-behind c =
    let here : c.loop-place.place ≡ c.loop-place.place - 1 + 1 = omega arith in
    subst (λ (n : ℕ). AreChainsFrom n c.args.receivers.now c.loop-place.chains) here c.loop-place.invariant
