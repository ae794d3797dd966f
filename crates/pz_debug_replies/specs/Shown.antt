-- Which variable of which process is meant. What it holds is said by `Shown` of `pz_term_simulator`.
use Rattle.std.specs.Prelude.{◌≡◌, ◌<◌, ℕ, List, Some, slice_get}
use Rattle.pz_classes_code.specs.Places.{place_in}
use Rattle.std.specs.Str.{bytes_eq}
use Rattle.pz_classes_code.specs.pz_syntax.Classes.{ModelTree}
use Rattle.pz_rules.specs.pz_classes_rules.Members.{variables, spelled}
use Rattle.pz_bind_levels.specs.Places.{Address}
use Rattle.pz_rules.specs.pz_bind_rules.Nest.{processes, class_at}
use Rattle.pz_rules.specs.pz_bind_rules.Names.{path}

-- Variable v of process i: the process is the first with this path, and its class has a variable of
-- this name at this place, the parameters and the variables of its ancestors included.
pub record IsVariable (m : ModelTree) (word name : List ℕ) (i v : ℕ) : Type 0 where
  pub place : Address
  pub is_process : slice_get (processes m) i ≡ Some place
  pub is_path : path m place ≡ word
  pub first : (j : ℕ) (other : Address) → j < i → slice_get (processes m) j ≡ Some other → path m other ≡ word → ⊥
  pub is_variable : place_in (spelled (variables m (class_at m place))) name ≡ Some v
