use Rattle.std.proofs.Common.{◌≡◌, map, take}
use Rattle.pz_state.specs.devices.FrameTables.{frames_from}
use Rattle.pz_state.proofs.frames.numbers_of.Given as goal

abbrev pub invariant-loop-place : goal.invariant-loop-place
invariant-loop-place l = map (λ n. n.0) l.numbers.items ≡ map (λ f. f.0) (frames_from 1 (take l.place l.table))
