use Rattle.std.proofs.Common.{◌≡◌, replicate}
use Rattle.pz_env.specs.devices.Making.{id_at}
use Rattle.pz_env.proofs.names.id_list.Given as goal

abbrev pub invariant-loop : goal.invariant-loop
invariant-loop l = l.ids ≡ replicate l.counter (id_at l.name l.at)
