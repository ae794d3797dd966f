-- No primitive value opens or closes a frame.
use Rattle.std.proofs.Common.{◌≡◌, ℕ, zero, suc, Bool, true, false, List, [], ◌∷◌, length, Option, Some, None, Ok, Err, refl}
use Rattle.std.specs.Prelude.{if◌then◌else◌, pos, negsuc, nat_le, bytes_eq, option_map, codes}
use Rattle.std.specs.Option.{option_map_or}
use Rattle.pz_rules.specs.pz_value.declared.value.Value.{Value}
use Rattle.pz_rules.specs.pz_value.declared.value.Value.TheVariants as value
use Rattle.pz_rules.specs.pz_value.declared.value.Value.TheVariants.{Ref}
use Rattle.pz_rules.specs.pz_state.States.{StateView, object}
use Rattle.pz_prims.specs.Rows.{Answer, answered}
use Rattle.pz_prims.specs.EveryValue.{every_value}
use Rattle.pz_prims.specs.Integers.{of_integer}
use Rattle.pz_prims.specs.Strings.{at_place}
use Rattle.pz_prims.specs.Arrays.{Changed, arrays, state_after, resize, put, item_at}
use Rattle.pz_prims.specs.Table.{Outcome, outcome, of_itself, told, is_array}
use Rattle.pz_tree_standing.specs.Frames.{numbers}

abbrev Good : StateView → Option (Answer Changed) → Type 0
Good s None = Unit {0}
Good s (Some (Ok c)) = numbers c.state ≡ numbers s
Good s (Some (Err fault)) = Unit {0}

resize_good : (s : StateView) (r : ℕ) (v : Value) → Good s (Some (of_integer (resize s r) v))
resize_good s r (value.Int (pos size)) = by (nat_le size Rattle.pz_prims.specs.Arrays.array_limit)
  where
    by : (b : Bool) → Good s (Some (if b then Ok (record { value = Ref r; state = Rattle.pz_rules.specs.pz_state.States.resized s r size }) else Err Rattle.pz_rules.specs.pz_state.declared.fault.FaultKind.TheVariants.Index))
    by true = refl
    by false = tt
resize_good s r (value.Int (negsuc n)) = tt
resize_good s r value.Nil = tt
resize_good s r (value.Bool b) = tt
resize_good s r (value.Char c) = tt
resize_good s r (value.Str t) = tt
resize_good s r (value.Ref o) = tt

item_good : (s : StateView) (r : ℕ) (v : Value) → Good s (Some (of_integer (item_at s r) v))
item_good s r (value.Int place) = by (at_place (object s r).items place)
  where
    by : (o : Option Value) → Good s (Some (option_map_or (λ item. Ok (record { value = item; state = s })) o (Err Rattle.pz_rules.specs.pz_state.declared.fault.FaultKind.TheVariants.Index)))
    by (Some item) = refl
    by None = tt
item_good s r value.Nil = tt
item_good s r (value.Bool b) = tt
item_good s r (value.Char c) = tt
item_good s r (value.Str t) = tt
item_good s r (value.Ref o) = tt

put_good : (s : StateView) (r : ℕ) (place new : Value) → Good s (Some (of_integer (put s r new) place))
put_good s r (value.Int (pos zero)) new = tt
put_good s r (value.Int (pos (suc before))) new = by (nat_le (suc before) (length (object s r).items))
  where
    by : (b : Bool) → Good s (Some (if b then Ok (record { value = Ref r; state = Rattle.pz_rules.specs.pz_state.States.set_item s r before new }) else Err Rattle.pz_rules.specs.pz_state.declared.fault.FaultKind.TheVariants.Index))
    by true = refl
    by false = tt
put_good s r (value.Int (negsuc n)) new = tt
put_good s r value.Nil new = tt
put_good s r (value.Bool b) new = tt
put_good s r (value.Char c) new = tt
put_good s r (value.Str t) new = tt
put_good s r (value.Ref o) new = tt

arrays_good : (s : StateView) (r : ℕ) (selector : List ℕ) (args : List Value) → Good s (answered (arrays s r) selector args)
unfolding answered arrays
arrays_good s r selector [] = by (bytes_eq selector (codes "size"))
  where
    by : (b : Bool) → Good s (if b then Some (Ok (record { value = value.Int (pos (length (object s r).items)); state = s })) else None)
    by true = refl
    by false = tt
arrays_good s r selector (v ∷ []) = by (bytes_eq selector (codes "resize")) (bytes_eq selector (codes "get"))
  where
    by : (a b : Bool) → Good s (option_map (λ (answer : Value → Answer Changed). answer v) (if a then Some (of_integer (resize s r)) else (if b then Some (of_integer (item_at s r)) else None)))
    by true b = resize_good s r v
    by false true = item_good s r v
    by false false = tt
arrays_good s r selector (v ∷ w ∷ []) = by (bytes_eq selector (codes "put"))
  where
    by : (b : Bool) → Good s (option_map (λ (answer : Value → Value → Answer Changed). answer v w) (if b then Some (λ place new. of_integer (put s r new) place) else None))
    by true = put_good s r v w
    by false = tt
arrays_good s r selector (v ∷ w ∷ x ∷ more) = tt

after_same : (s : StateView) (o : Option (Answer Changed)) → Good s o → numbers (state_after s o) ≡ numbers s
after_same s None g = refl
after_same s (Some (Ok c)) g = g
after_same s (Some (Err fault)) g = refl

either_same : (s : StateView) (b : Bool) (x y : Outcome) → numbers x.state ≡ numbers s → numbers y.state ≡ numbers s → numbers (if b then x else y).state ≡ numbers s
either_same s true x y h k = h
either_same s false x y h k = k

itself_same : (s : StateView) (v : Value) (selector : List ℕ) (args : List Value) → numbers (of_itself s v selector args).state ≡ numbers s
itself_same s value.Nil selector args = refl
itself_same s (value.Bool b) selector args = refl
itself_same s (value.Int n) selector args = refl
itself_same s (value.Char c) selector args = refl
itself_same s (value.Str t) selector args = refl
itself_same s (value.Ref r) selector args = either_same s (is_array (object s r).class) _ _ (after_same s (answered (arrays s r) selector args) (arrays_good s r selector args)) refl

pub outcome_same : (s : StateView) (v : Value) (selector : List ℕ) (args : List Value) → numbers (outcome s v selector args).state ≡ numbers s
unfolding outcome
outcome_same s v selector args = by (answered (every_value v) selector args)
  where
    by : (o : Option (Answer Value)) → numbers (option_map_or (λ answer. record { answer = told answer; state = s }) o (of_itself s v selector args)).state ≡ numbers s
    by None = itself_same s v selector args
    by (Some answer) = refl
