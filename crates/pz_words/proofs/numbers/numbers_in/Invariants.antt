use Rattle.std.proofs.Common.{◌≡◌, map, drop, ◌++◌}
use Rattle.std.specs.Prelude.{option_map}
use Rattle.pz_words.specs.devices.Reading.{numbers_of}
use Rattle.pz_words.proofs.numbers.numbers_in.Given as goal

abbrev pub invariant-loop-part : goal.invariant-loop-part
invariant-loop-part l = option_map (λ ms. l.numbers ++ ms) (numbers_of (map (λ p. p.now) (drop l.part-index l.parts))) ≡ numbers_of (map (λ p. p.now) l.parts)
