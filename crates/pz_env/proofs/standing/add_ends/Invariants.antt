use Rattle.std.proofs.Common.{◌≡◌, ◌||◌, drop}
use Rattle.std.specs.List.{list_any}
use Rattle.pz_env_tree.specs.pz_bind_rules.Connections.{is_inner}
use Rattle.pz_env.specs.devices.Ends.{Named, ends_in, has_end}
use Rattle.pz_env.proofs.standing.add_ends.Given as goal

abbrev pub invariant-loop-end : goal.invariant-loop-end
invariant-loop-end l = (e : Named)
    → (has_end (ends_in l.ends) e || list_any (is_inner e.instance e.port) (drop l.end-index l.listed)) ≡ (has_end (ends_in l.fn.ends) e || list_any (is_inner e.instance e.port) l.listed)
