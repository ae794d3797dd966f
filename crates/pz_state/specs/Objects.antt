-- An object as plain data, and what is kept of one.
use Rattle.std.specs.Prelude.{ℕ, List}
use Rattle.pz_value.specs.declared.value.ClassId.{ClassId}
use Rattle.pz_value.specs.declared.value.Value.{Value}

pub record ObjectView : Type 0 where
  pub class : ClassId
  pub items : List Value

-- an object, and how many items it can have before it takes memory
pub record StoredObject : Type 0 where
  pub object : ObjectView
  pub room : ℕ
