use Rattle.std.proofs.Common.{◌≡◌, ◌++◌, ◌∷◌, take}
use Rattle.std.specs.List.{flat_map}
use Rattle.pz_copy.specs.ParcelText.{value_text}
use Rattle.pz_copy.proofs.text.put_values.Given as goal

abbrev pub invariant-loop-value : goal.invariant-loop-value
invariant-loop-value l = l.out.items ≡ l.initial.out.items ++ flat_map (λ v. 44 ∷ value_text v) (take l.value-index l.rest)
