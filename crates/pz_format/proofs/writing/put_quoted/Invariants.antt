use Rattle.std.proofs.Common.{◌≡◌, ◌++◌, ◌∷◌, take}
use Rattle.std.specs.List.{flat_map}
use Rattle.pz_format.specs.Writing.{item_text}
use Rattle.pz_format.proofs.writing.put_quoted.Given as goal

abbrev pub invariant-loop-byte : goal.invariant-loop-byte
invariant-loop-byte l = l.out.items ≡ l.fn.out.items ++ l.quote ∷ flat_map (item_text l.quote) (take l.byte-index l.bytes)
