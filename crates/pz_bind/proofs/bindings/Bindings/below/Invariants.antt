use Rattle.std.proofs.Common.{◌≡◌, ℕ, List, drop}
use Rattle.std.specs.Option.{unwrap_or}
use Rattle.pz_bind_rules.specs.Values.{given_value}
use Rattle.pz_bind.specs.devices.Bindings.{bound_in, value_in}
use Rattle.pz_bind.proofs.bindings.Bindings.below.Given as goal

abbrev pub invariant-loop-given : goal.invariant-loop-given
invariant-loop-given l = (q : List ℕ) → unwrap_or (bound_in l.inner q) (given_value (value_in l.self) (drop l.given-index l.all) q) ≡ given_value (value_in l.self) l.all q
