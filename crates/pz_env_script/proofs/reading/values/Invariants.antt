-- What is read so far stands before what the words that are left write.
use Rattle.std.proofs.Common.{◌≡◌, ◌++◌, drop}
use Rattle.std.specs.Prelude.{option_map}
use Rattle.pz_env_script.specs.devices.Reading.{literals_of, texts}
use Rattle.pz_env_script.proofs.reading.values.Given as goal

abbrev pub invariant-loop-word : goal.invariant-loop-word
invariant-loop-word l = literals_of (texts l.words) ≡ option_map (λ vs. l.values ++ vs) (literals_of (texts (drop l.word-index l.words)))
