-- Offers by their numbers, as they are found.
use Rattle.std.specs.Prelude.{◌≡◌, ◌<◌, ℕ, List, length, Some, slice_get}
use Rattle.pz_rules.specs.pz_syntax.Classes.{ModelTree}
use Rattle.pz_match.specs.Pairs.{Judged, taken}
use Rattle.pz_rules.specs.declared.action.Action.{Action}
use Rattle.pz_rules.specs.declared.action.Action.TheVariants.{Internal}
use Rattle.pz_rules.specs.devices.Walk as walk
use Rattle.pz_rules.specs.devices.Walk.{Noted, internal_actions}
use Rattle.pz_sim_laws.specs.Couples as couples
use Rattle.pz_tree.specs.declared.tree.Tree.{Tree}
use Rattle.pz_tree.specs.Trees.{at_in, term_in}

-- the process of a tree has an internal action of this number
abbrev pub HasAction : ModelTree → Tree → ℕ → Type 0
HasAction m t n = n < length (internal_actions (at_in m t) (term_in t))

-- it is this one, of process i
pub record IsActionOf (m : ModelTree) (t : Tree) (i n : ℕ) (a : Action) : Type 0 where
  pub noted : Noted walk.Doing
  pub is : slice_get (internal_actions (at_in m t) (term_in t)) n ≡ Some noted
  pub action : a ≡ Internal (record { process = i; place = noted.place }) noted.what.kind noted.what.pos

-- the communication of this number, of those that are taken
pub record IsCommunication (ps : List Judged) (n : ℕ) (a : Action) : Type 0 where
  pub pair : Judged
  pub is : slice_get (taken ps) n ≡ Some pair
  pub action : a ≡ couples.communication pair
