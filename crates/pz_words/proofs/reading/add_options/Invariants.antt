use Rattle.std.proofs.Common.{◌≡◌, map, drop, None, string_bytes}
use Rattle.pz_words.specs.devices.Reading.{read_on}
use Rattle.pz_words.proofs.reading.add_options.Given as goal

abbrev pub invariant-loop-word : goal.invariant-loop-word
invariant-loop-word l = read_on l.options l.awaited (map string_bytes (drop l.word-index l.words)) ≡ read_on l.initial.options None (map string_bytes l.words)
