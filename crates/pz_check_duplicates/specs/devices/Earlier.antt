-- The earliest place of things that are alike.
use Rattle.std.specs.Prelude.{Bool, List, [], ◌∷◌, Option, Some, None, if◌then◌else◌}
use Rattle.pz_classes.specs.pz_syntax.declared.tokens.Pos.{Pos}
use Rattle.pz_check_violations.specs.Order.{pos_before}

-- the earlier place, the first where neither is earlier
abbrev pub earlier : Option Pos → Pos → Option Pos
earlier None p = Some p
earlier (Some q) p = Some (if pos_before p q then p else q)

-- the earliest place of those that are alike: the one found before, or that of one of these
abbrev pub earliest_of : {A : Type 0} → (A → Pos) → (A → Bool) → Option Pos → List A → Option Pos
earliest_of place alike found [] = found
earliest_of place alike found (x ∷ xs) = earliest_of place alike (if alike x then earlier found (place x) else found) xs
