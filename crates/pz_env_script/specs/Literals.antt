-- How values are written in a script.
use Rattle.std.specs.Prelude.{◌≤◌, ◌<◌, ◌^◌, ℕ, pos, neg_ℤ, true, false, List, [], ◌∷◌, codes}
use Rattle.std.specs.Fmt.{decimal}
use Rattle.pz_syntax.specs.pz_items.Characters.{byte}
use Rattle.pz_value.specs.declared.value.Value.{Value}
use Rattle.pz_value.specs.declared.value.Value.TheVariants.{Nil, Bool, Int}

-- The word writes the value. Digits have no leading zero; a minus may stand before 0, too.
pub data IsLiteral : List ℕ → Value → Type 0 where
  nothing : IsLiteral (codes "nil") Nil
  truth : IsLiteral (codes "true") (Bool true)
  falsehood : IsLiteral (codes "false") (Bool false)
  number : (n : ℕ) → n < 2 ^ 63 → IsLiteral (decimal n) (Int (pos n))
  negative : (n : ℕ) → n ≤ 2 ^ 63 → IsLiteral (byte "-" ∷ decimal n) (Int (neg_ℤ (pos n)))

-- the words write the values, one each
pub data AreLiterals : List (List ℕ) → List Value → Type 0 where
  none : AreLiterals [] []
  more : (word : List ℕ) (value : Value) (words : List (List ℕ)) (values : List Value) → IsLiteral word value → AreLiterals words values → AreLiterals (word ∷ words) (value ∷ values)
