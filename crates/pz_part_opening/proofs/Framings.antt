-- A frame without outputs that is all of such a frame stands in its place.
use Rattle.std.proofs.Common.{◌≡◌, ℕ, true, false, [], ◌∷◌, refl}
use Rattle.pz_rules.specs.Terms.{Term, frame}
use Rattle.pz_rules.specs.Framing.{framed}
use Rattle.pz_part_opening.specs.Bare.{is_bare}

pub framed_again : (a b : ℕ) (t : Term) → framed a 0 [] (framed b 0 [] t) ≡ framed b 0 [] t
framed_again a b (frame number inputs [] t) = refl
framed_again a b (frame number inputs (x ∷ xs) t) = refl
framed_again a b t = refl

pub framed_as : (number : ℕ) (t : Term) → is_bare t ≡ false → framed number 0 [] t ≡ frame number 0 [] t
framed_as number (frame inner inputs [] t) other = let both : true ≡ false = other in cc
framed_as number (frame inner inputs (x ∷ xs) t) other = refl
framed_as number t other = refl
