-- Tests that hold where others do.
use Rattle.std.proofs.Common.{◌≡◌, refl, Bool, true, false, not, ◌&&◌, ◌||◌}
use Rattle.std.proofs.lemmas.Bool.{both_ways, or_left, or_right, not_from_true}

pub fewer : (a b c : Bool) → (b ≡ true → c ≡ true) → a && not b ≡ false → a && not c ≡ false
fewer false b c more is = refl
fewer true true c more is = not_from_true c (more refl)
fewer true false c more is = absurd (both_ways true is refl)

pub either : (a b c d : Bool) → (a ≡ true → c ≡ true) → (b ≡ true → d ≡ true) → a || b ≡ true → c || d ≡ true
either true b c d left right is = or_left c d (left refl)
either false b c d left right is = or_right c d (right is)
