use Rattle.std.proofs.Common.{◌≡◌, ◌||◌, drop}
use Rattle.std.specs.List.{list_any}
use Rattle.pz_env.specs.devices.Ends.{Named, named, is_named, ends_in, has_end}
use Rattle.pz_env.proofs.standing.add_ports.Given as goal

abbrev pub invariant-loop-place : goal.invariant-loop-place
invariant-loop-place l = (e : Named)
    → (has_end (ends_in l.ends) e || list_any (λ p. is_named e (named l.instance p)) (drop l.place l.ports.names)) ≡ (has_end (ends_in l.fn.ends) e || list_any (λ p. is_named e (named l.instance p)) l.ports.names)
