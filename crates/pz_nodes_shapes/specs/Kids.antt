-- The keys of children, however they lie in a node.
use Rattle.std.specs.Prelude.{ℕ, List, [], Option}
use Rattle.pz_nodes_shapes.specs.declared.kids.Held.{Held}
use Rattle.pz_nodes_shapes.specs.declared.kids.Held.TheVariants.{Nothing, One, Two, Many}

abbrev pub keys_of : Held → List (Option ℕ)
keys_of Nothing = []
keys_of (One kids) = kids
keys_of (Two kids) = kids
keys_of (Many kids) = kids.items
