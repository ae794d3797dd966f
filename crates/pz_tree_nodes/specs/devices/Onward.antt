-- From a part of a term towards the internal action of number k.
use Rattle.std.specs.Prelude.{◌≡◌, ◌<◌, ◌++◌, ℕ, [], ◌∷◌, Option, Some, None, option_map, slice_get}
use Rattle.pz_rules.specs.pz_offer.PlaceOrder.{Place}
use Rattle.pz_nodes_shapes.specs.Rose.{Map}
use Rattle.pz_nodes_shapes.specs.Seen.{seen}
use Rattle.pz_rules.specs.Settings.{Context}
use Rattle.pz_rules.specs.Terms.{Term, child, frame_in, height}
use Rattle.pz_rules.specs.devices.Walk as walk
use Rattle.pz_rules.specs.devices.Walk.{Noted, does}
use Rattle.pz_tree_nodes.specs.declared.node.What.{What}
use Rattle.pz_tree_nodes.specs.View.{what_view}
use Rattle.pz_tree_nodes.specs.declared.kth.Next.{Next}
use Rattle.pz_tree_nodes.specs.declared.kth.Next.TheVariants.{Nowhere, Acts, Into}
use Rattle.pz_tree_nodes.specs.declared.heads.Doing.{Doing}
use Rattle.pz_tree_nodes.specs.declared.parts.Spot.{Spot}
use Rattle.pz_tree_nodes.specs.Seeking.{IsBareUnder}
use Rattle.pz_tree_nodes.specs.Standing.{RightUnder}
use Rattle.pz_tree_nodes.specs.Choosing.{actions_in}

-- seen from further out
abbrev pub further : {X : Type 0} → ℕ → Noted X → Noted X
further i n = record { place = i ∷ n.place; what = n.what }

abbrev pub below : {X : Type 0} → Place → Noted X → Noted X
below place n = record { place = place ++ n.place; what = n.what }

abbrev pub doing_view : Doing → walk.Doing
doing_view d = record { kind = d.kind; pos = d.pos }

-- the action is in the child of this number
pub record GoesInto (a : Context) (m : Map What) (f : ℕ) (t : Term) (k i : ℕ) (spot : Spot) (left : ℕ) : Type 0 where
  pub right : RightUnder a m spot.frame.0 spot.key spot.clock (child t i)
  pub bare : IsBareUnder (seen what_view m) spot.key
  pub in_frame : spot.frame.0 ≡ frame_in t f
  pub lower : height (child t i) < height t
  pub same : slice_get (actions_in a f t) k ≡ option_map (further i) (slice_get (actions_in a spot.frame.0 (child t i)) left)

abbrev pub Leads : Context → Map What → Option ℕ → ℕ → Term → ℕ → Next → Type 0
Leads a m key f t k Nowhere = slice_get (actions_in a f t) k ≡ None
Leads a m key f t k (Acts own doing) = (key ≡ Some own) × (does a f t ≡ Some (doing_view doing)) × (slice_get (actions_in a f t) k ≡ Some (record { place = []; what = doing_view doing }))
Leads a m key f t k (Into i spot left) = GoesInto a m f t k i spot left

-- of a part whose topmost node is no shift node
abbrev pub NextRule : Map What → Option ℕ → ℕ → ℕ → ℕ → Next → Type 0
NextRule m key f c k next = (a : Context) (t : Term) → RightUnder a m f key c t → IsBareUnder (seen what_view m) key → Leads a m key f t k next
