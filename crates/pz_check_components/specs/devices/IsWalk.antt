-- What holds of a walk over a graph all the time, as a device of the proofs.
use Rattle.std.specs.Prelude.{◌≡◌, ◌≢◌, ◌≤◌, ◌<◌, ◌+◌, ◌⊎◌, ℕ, List, length, slice_get, Some, None, Contains}
use Rattle.pz_check_components.specs.declared.walk.State.TheVariants.{Unseen, Open, Done}
use Rattle.pz_check_components.specs.declared.walk.Group.{Group}
use Rattle.pz_check_components.specs.Graph.{targets, Reaches}
use Rattle.pz_check_components.specs.devices.Walking.{Walked, state_of, followed_group, count_unseen, left}

-- this element stands at this place
abbrev pub At : {A : Type 0} → List A → ℕ → A → Type 0
At xs k x = slice_get xs k ≡ Some x

-- no group starts after place j, up to place i: what stands at i leads to what stands at j
pub record NoStart (groups : List Group) (i j : ℕ) : Type 0 where
  pub no_start : (a : ℕ) (g : Group) → At groups a g → g.start ≤ i → g.start ≤ j

-- an edge from place i is in order: its end is done, or is known to be reached from place i anyhow
pub data IsFollowed (w : Walked) (i v : ℕ) : Type 0 where
  to_done : (c : ℕ) → state_of w.states v ≡ Done c → IsFollowed w i v
  to_open : (j : ℕ) → state_of w.states v ≡ Open j → NoStart w.groups i j → IsFollowed w i v

-- an edge that is to be followed as k-th may leave place i: the groups up to there have been opened
pub record WaitsFor (groups : List Group) (i k : ℕ) : Type 0 where
  pub waits_for : (a : ℕ) (g : Group) → At groups a g → g.start ≤ i → g.pending ≤ k

-- an edge from place i is still to be followed
pub record IsWaiting (w : Walked) (i v : ℕ) : Type 0 where
  pub at : ℕ
  pub there : At w.pending at v
  pub after : WaitsFor w.groups i at

-- an edge to v that is to be followed as k-th, and leaves the group g or a later one
pub record HasSource (edges : List (List ℕ)) (w : Walked) (k v : ℕ) (g : Group) : Type 0 where
  pub from : ℕ
  pub place : ℕ
  pub stands : state_of w.states from ≡ Open place
  pub leads : Contains (targets edges from) v
  pub later : g.start ≤ place
  pub after : WaitsFor w.groups place k

-- the path and the states say the same
pub record IsPath (w : Walked) : Type 0 where
  pub placed : (i v : ℕ) → At w.path i v → state_of w.states v ≡ Open i
  pub on_path : (i v : ℕ) → state_of w.states v ≡ Open i → At w.path i v
  pub grouped : (i v : ℕ) → state_of w.states v ≡ Open i → (a : ℕ) × (g : Group) × At w.groups a g × (g.start ≤ i)

-- groups stand in order
pub record AreGroups (w : Walked) : Type 0 where
  pub ordered : (a b : ℕ) (g h : Group) → At w.groups a g → At w.groups b h → a ≤ b → (g.start ≤ h.start) × (g.pending ≤ h.pending)
  pub bounded : (a : ℕ) (g : Group) → At w.groups a g → (g.start ≤ length w.path) × (g.pending ≤ length w.pending)

-- components are done in order, so that no edge leads to a later one
pub record AreDone (edges : List (List ℕ)) (w : Walked) : Type 0 where
  pub downward : (v u c : ℕ) → state_of w.states v ≡ Done c → Contains (targets edges v) u → (d : ℕ) × (state_of w.states u ≡ Done d) × (d ≤ c)
  pub together : (v u c : ℕ) → At w.states v (Done c) → At w.states u (Done c) → Reaches edges v u
  pub numbered : (v c : ℕ) → At w.states v (Done c) → c < length w.found

pub record IsWalk (edges : List (List ℕ)) (w : Walked) : Type 0 where
  pub sized : length w.states ≡ length edges
  pub few : length w.found + (length w.groups + count_unseen w.states) ≤ length edges
  pub path : IsPath w
  pub groups : AreGroups w
  pub done : AreDone edges w
  pub leads : (i j v u : ℕ) → state_of w.states v ≡ Open i → state_of w.states u ≡ Open j → NoStart w.groups i j → Reaches edges v u
  pub edge : (i v u : ℕ) → state_of w.states v ≡ Open i → Contains (targets edges v) u → IsFollowed w i u ⊎ IsWaiting w i u
  pub source : (k v a : ℕ) (g : Group) → At w.pending k v → At w.groups a g → g.pending ≤ k → HasSource edges w k v g
  pub unseen : (v : ℕ) → state_of w.states v ≡ Unseen → (k : ℕ) × At w.pending k v

-- of these groups those are left that do not start after this place
pub record AreJoined (place : ℕ) (old new : List Group) : Type 0 where
  pub from : (a : ℕ) (g : Group) → At new a g → At old a g
  pub kept : (a : ℕ) (g : Group) → At old a g → g.start ≤ place → At new a g
  pub fewer : length new ≤ length old

-- the last group has an edge that is to be followed
pub record IsOpenEnded (w : Walked) : Type 0 where
  pub some : length w.pending ≢ 0
  pub not_followed : followed_group w ≡ None

-- one step further on
pub record Advances (edges : List (List ℕ)) (old new : Walked) : Type 0 where
  pub walks : IsWalk edges new
  pub nearer : left edges new < left edges old
