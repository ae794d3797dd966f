-- What values answer to selectors with one argument, by the names of these.
use Rattle.std.proofs.Common.{◌≡◌, ℕ, ℤ, Bool, List, [], ◌∷◌, map, Option, refl}
use Rattle.std.specs.Prelude.{option_map}
use Rattle.pz_state.specs.pz_value.declared.value.Value.{Value}
use Rattle.pz_state.specs.States.{StateView}
use Rattle.pz_prims.specs.declared.every_value.Equality.{Equality}
use Rattle.pz_prims.specs.declared.integers.Operator.{Operator}
use Rattle.pz_prims.specs.declared.booleans.Connective.{Connective}
use Rattle.pz_prims.specs.declared.chars.Comparison.{Comparison}
use Rattle.pz_prims.specs.declared.strings.Operation.{Operation}
use Rattle.pz_prims.specs.declared.arrays.Request.{Request}
use Rattle.pz_prims.specs.Rows.{beside, answered}
use Rattle.pz_prims.specs.EveryValue.{every_value}
use Rattle.pz_prims.specs.Integers.{integers}
use Rattle.pz_prims.specs.Booleans.{booleans}
use Rattle.pz_prims.specs.Chars.{chars}
use Rattle.pz_prims.specs.Strings.{strings}
use Rattle.pz_prims.specs.Arrays.{arrays}
use Rattle.pz_prims.specs.devices.Operators.{equalities, equality_row, operators, operator_row, connectives, connective_row, comparisons, comparison_row, operations, operation_row, requests, request_row}
use Rattle.pz_prims.proofs.Named.{row_of, answered_by_name}

equality_rows : (v : Value) → (every_value v).with_one ≡ map (row_of (equality_row v)) equalities
unfolding every_value
equality_rows v = refl

pub by_equality : (v : Value) (selector : List ℕ) (w : Value) (found : Option Equality) → found ≡ beside selector equalities → answered (every_value v) selector (w ∷ []) ≡ option_map (λ e. equality_row v e w) found
by_equality v selector w found is = answered_by_name (every_value v) (equality_row v) equalities (equality_rows v) selector w found is

operator_rows : (a : ℤ) → (integers a).with_one ≡ map (row_of (operator_row a)) operators
unfolding integers
operator_rows a = refl

pub by_operator : (a : ℤ) (selector : List ℕ) (w : Value) (found : Option Operator) → found ≡ beside selector operators → answered (integers a) selector (w ∷ []) ≡ option_map (λ o. operator_row a o w) found
by_operator a selector w found is = answered_by_name (integers a) (operator_row a) operators (operator_rows a) selector w found is

connective_rows : (a : Bool) → (booleans a).with_one ≡ map (row_of (connective_row a)) connectives
unfolding booleans
connective_rows a = refl

pub by_connective : (a : Bool) (selector : List ℕ) (w : Value) (found : Option Connective) → found ≡ beside selector connectives → answered (booleans a) selector (w ∷ []) ≡ option_map (λ c. connective_row a c w) found
by_connective a selector w found is = answered_by_name (booleans a) (connective_row a) connectives (connective_rows a) selector w found is

comparison_rows : (a : ℕ) → (chars a).with_one ≡ map (row_of (comparison_row a)) comparisons
unfolding chars
comparison_rows a = refl

pub by_comparison : (a : ℕ) (selector : List ℕ) (w : Value) (found : Option Comparison) → found ≡ beside selector comparisons → answered (chars a) selector (w ∷ []) ≡ option_map (λ c. comparison_row a c w) found
by_comparison a selector w found is = answered_by_name (chars a) (comparison_row a) comparisons (comparison_rows a) selector w found is

operation_rows : (a : List ℕ) → (strings a).with_one ≡ map (row_of (operation_row a)) operations
unfolding strings
operation_rows a = refl

pub by_operation : (a : List ℕ) (selector : List ℕ) (w : Value) (found : Option Operation) → found ≡ beside selector operations → answered (strings a) selector (w ∷ []) ≡ option_map (λ o. operation_row a o w) found
by_operation a selector w found is = answered_by_name (strings a) (operation_row a) operations (operation_rows a) selector w found is

request_rows : (s : StateView) (r : ℕ) → (arrays s r).with_one ≡ map (row_of (request_row s r)) requests
unfolding arrays
request_rows s r = refl

pub by_request : (s : StateView) (r : ℕ) (selector : List ℕ) (w : Value) (found : Option Request) → found ≡ beside selector requests → answered (arrays s r) selector (w ∷ []) ≡ option_map (λ q. request_row s r q w) found
by_request s r selector w found is = answered_by_name (arrays s r) (request_row s r) requests (request_rows s r) selector w found is
