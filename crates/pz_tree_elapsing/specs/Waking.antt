-- The nodes in which a passing of time wakes something: those on the way to a delay that is over then, to one that
-- begins, and to a part that names the clock, if it is active; and the live nodes of what becomes active.
use Rattle.std.specs.Prelude.{◌+◌, ◌||◌, eqb, if◌then◌else◌, ℕ, suc, Bool, true, false, Option, Some, None}
use Rattle.pz_nodes_shapes.specs.Rose.{node, none, gone, more}
use Rattle.pz_tree_refreshing.specs.pz_tree_standing.Heads.{Head, inner_clock}
use Rattle.pz_tree_refreshing.specs.pz_tree_standing.Reached.{reaches}
use Rattle.pz_tree_refreshing.specs.pz_tree_nodes.declared.kept.Kept.{Kept}
use Rattle.pz_tree_refreshing.specs.pz_tree_nodes.View.{Plant, Plants, head_view}
use Rattle.pz_tree_refreshing.specs.Live.{live_below}

abbrev pub is_due : ℕ → Option ℕ → Bool
is_due c None = false
is_due c (Some due) = eqb due c

-- Something wakes in the node when its clock shows c: an active delay is over, an active delay begins, or an active
-- part names the clock.
abbrev pub wakes : ℕ → Kept → Bool
wakes c k = is_due c k.summary.due || (k.starts || k.clocked)

-- Of a child that was active before, or not; that is active afterwards, or not. The one has so many woken nodes below
-- it, the other so many live ones.
abbrev pub visited : Bool → Bool → ℕ → ℕ → ℕ
visited true after woken live = suc woken
visited false true woken live = suc live
visited false false woken live = 0

abbrev mutual
  -- Below the topmost, whose clock shows c afterwards, of nodes before and after: none where nothing wakes.
  pub woken_below : ℕ → Plant → Plant → ℕ
  woken_below c (node k x ps) (node l y qs) =
      if wakes c x.kept then woken_among (head_view x.head) (head_view y.head) c 0 ps qs else 0

  -- of these children, of which the first has number i
  pub woken_among : Head → Head → ℕ → ℕ → Plants → Plants → ℕ
  woken_among h g c i none qs = 0
  woken_among h g c i (gone ps) none = 0
  woken_among h g c i (gone ps) (gone qs) = woken_among h g c (suc i) ps qs
  woken_among h g c i (gone ps) (more q qs) = 0
  woken_among h g c i (more p ps) none = 0
  woken_among h g c i (more p ps) (gone qs) = 0
  woken_among h g c i (more p ps) (more q qs) =
      visited (reaches h i) (reaches g i) (woken_below (inner_clock h i c) p q) (live_below q)
      + woken_among h g c (suc i) ps qs

abbrev pub woken_nodes : ℕ → Plant → Plant → ℕ
woken_nodes c p q = suc (woken_below c p q)
