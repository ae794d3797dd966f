-- What follows of several clauses of a call that succeeded.
use Rattle.std.proofs.Common.{refl}
use Rattle.std.specs.Prelude.{◌≡◌, Result, Ok, Err, OnOk}

module _ {X E : Type 0} where
  pub on_ok6 : {A B C D F G Z : Type 0} (r : Result X E) → OnOk r A → OnOk r B → OnOk r C → OnOk r D → OnOk r F → OnOk r G → (A → B → C → D → F → G → Z) → OnOk r Z
  on_ok6 (Ok x) a b c d f g go = go a b c d f g
  on_ok6 (Err e) a b c d f g go = tt

  pub on_any : {A : Type 0} (r : Result X E) → A → OnOk r A
  on_any (Ok x) a = a
  on_any (Err e) a = tt

  -- what is not an error is a success
  pub is_ok : (r : Result X E) → ((e : E) → r ≡ Err e → ⊥) → (x : X) × (r ≡ Ok x)
  is_ok (Ok x) never = (x, refl)
  is_ok (Err e) never = absurd (never e refl)
