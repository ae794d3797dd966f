-- Functions that agree everywhere are equal.
use Rattle.std.proofs.Common.{◌≡◌}

pub agreeing : {A B : Type 0} (f g : A → B) → ((x : A) → f x ≡ g x) → f ≡ g
agreeing f g agree = λ i. λ x. agree x i
