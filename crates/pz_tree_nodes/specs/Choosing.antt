-- The internal actions of a term, chosen by their number in the nodes that stand for the term.
use Rattle.std.specs.Prelude.{◌≡◌, ◌≤◌, ℕ, List, Option, Some, None, option_map, slice_get}
use Rattle.pz_nodes_shapes.specs.Rose.{Map}
use Rattle.pz_nodes_shapes.specs.Seen.{seen}
use Rattle.pz_rules.specs.Laws.{part_of}
use Rattle.pz_rules.specs.Settings.{Context}
use Rattle.pz_rules.specs.Terms.{Term, height}
use Rattle.pz_rules.specs.devices.Walk.{Doing, Noted, active_parts, noted, does}
use Rattle.pz_tree_nodes.specs.declared.node.What.{What}
use Rattle.pz_tree_nodes.specs.View.{what_view}
use Rattle.pz_tree_nodes.specs.declared.found.Part.{Part}
use Rattle.pz_tree_nodes.specs.declared.found.ActingPart.{ActingPart}
use Rattle.pz_tree_nodes.specs.Seeking.{IsFound}
use Rattle.pz_tree_nodes.specs.Standing.{StandsRight, RightUnder}

-- of a term that stands in frame f, by place; those of a whole process, which stands in none, are the
-- `internal_actions` of the rules
abbrev pub actions_in : Context → ℕ → Term → List (Noted Doing)
actions_in a f t = noted (does a) (active_parts a f t)

abbrev pub doing_of : ActingPart → Doing
doing_of x = record { kind = x.kind; pos = x.pos }

abbrev pub noted_view : ActingPart → Noted Doing
noted_view x = record { place = x.part.place; what = doing_of x }

-- Whatever right nodes stand under the root, for a term that is no higher than there are levels: this is its
-- internal action of number k, from 0, and None exactly where it has none.
abbrev pub ChoiceRule : Map What → Option ℕ → ℕ → ℕ → ℕ → ℕ → Option ActingPart → Type 0
ChoiceRule m root f c levels k chosen = (a : Context) (t : Term) → RightUnder a m f root c t → height t ≤ levels
    → option_map noted_view chosen ≡ slice_get (actions_in a f t) k

-- it is the part at its place, in its frame and by its clock; what stands for it is tended and right
pub record IsPart (a : Context) (m : Map What) (f : ℕ) (t : Term) (x : Part) : Type 0 where
  pub found : IsFound (seen what_view m) f t x.place (Some x.key) x.frame.0 x.clock
  pub right : StandsRight a m x.frame.0 x.key x.clock (part_of t x.place)

pub record MayBeDone (a : Context) (m : Map What) (f : ℕ) (t : Term) (x : ActingPart) : Type 0 where
  pub part : IsPart a m f t x.part
  pub does : does a x.part.frame.0 (part_of t x.part.place) ≡ Some (doing_of x)

-- and the part that is found can do it
abbrev pub ChosenRule : Map What → Option ℕ → ℕ → ℕ → ℕ → Option ActingPart → Type 0
ChosenRule m root f c levels None = Unit {0}
ChosenRule m root f c levels (Some x) = (a : Context) (t : Term) → RightUnder a m f root c t → height t ≤ levels
    → MayBeDone a m f t x
