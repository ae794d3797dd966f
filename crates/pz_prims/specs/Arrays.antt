-- What an Array answers, and the state that it leaves.
use Rattle.std.specs.Prelude.{ℕ, zero, suc, nat_le, ℤ, pos, negsuc, [], ◌∷◌, length, Option, Some, None, Ok, Err, if◌then◌else◌, codes}
use Rattle.std.specs.Option.{option_map_or}
use Rattle.pz_state.specs.pz_value.declared.value.Value.{Value}
use Rattle.pz_state.specs.pz_value.declared.value.Value.TheVariants.{Int, Ref}
use Rattle.pz_state.specs.declared.fault.FaultKind.TheVariants.{Index}
use Rattle.pz_state.specs.States.{StateView, object, set_item, resized}
use Rattle.pz_prims.specs.Rows.{Rows, Answer}
use Rattle.pz_prims.specs.Integers.{of_integer}
use Rattle.pz_prims.specs.Strings.{at_place}

-- a value, and the state afterwards
pub record Changed : Type 0 where
  pub value : Value
  pub state : StateView

-- the value alone
abbrev pub value_of : Answer Changed → Answer Value
value_of (Ok changed) = Ok changed.value
value_of (Err fault) = Err fault

-- the state afterwards, which stays where there is no row or a fault
abbrev pub state_after : StateView → Option (Answer Changed) → StateView
state_after s None = s
state_after s (Some (Ok changed)) = changed.state
state_after s (Some (Err fault)) = s

-- the most items of an Array
abbrev pub array_limit : ℕ
array_limit = 1048576

-- the Array cut to this size, or filled with nil
abbrev pub resize : StateView → ℕ → ℤ → Answer Changed
resize s r (pos size) = if nat_le size array_limit then Ok (record { value = Ref r; state = resized s r size }) else Err Index
resize s r (negsuc n) = Err Index

-- the Array with the value at this place, of which the first is 1
abbrev pub put : StateView → ℕ → Value → ℤ → Answer Changed
put s r value (pos zero) = Err Index
put s r value (pos (suc before)) = if nat_le (suc before) (length (object s r).items) then Ok (record { value = Ref r; state = set_item s r before value }) else Err Index
put s r value (negsuc n) = Err Index

abbrev pub item_at : StateView → ℕ → ℤ → Answer Changed
item_at s r place = option_map_or (λ item. Ok (record { value = item; state = s })) (at_place (object s r).items place) (Err Index)

-- of the Array that is this object
unfoldable pub arrays : StateView → ℕ → Rows Changed
arrays s r = record {
  alone =
      (codes "size", Ok (record { value = Int (pos (length (object s r).items)); state = s })) ∷ [];
  with_one =
      (codes "resize", of_integer (resize s r)) ∷
      (codes "get", of_integer (item_at s r)) ∷ [];
  with_two =
      (codes "put", λ place value. of_integer (put s r value) place) ∷ [];
}
