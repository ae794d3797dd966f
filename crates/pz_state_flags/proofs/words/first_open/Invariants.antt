use Rattle.std.proofs.Common.{◌≡◌, ℕ, ◌<◌, true}
use Rattle.pz_state_flags.specs.Flags.{word_at}
use Rattle.pz_state_flags.specs.devices.Words.{is_full}
use Rattle.pz_state_flags.proofs.words.first_open.Given as goal

abbrev pub invariant-loop-place : goal.invariant-loop-place
invariant-loop-place l = (i : ℕ) → i < l.place → is_full (word_at l.words.items i) ≡ true
