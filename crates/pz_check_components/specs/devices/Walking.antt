-- A walk over a graph, as a device of the proofs.
use Rattle.std.specs.Prelude.{ℕ, zero, suc, ◌+◌, ◌-◌, Bool, nat_eq, nat_le, ◌&&◌, List, [], ◌∷◌, ◌++◌, length, take, drop, slice_get, slice_set, Option, Some, None, option_and_then, if◌then◌else◌}
use Rattle.std.specs.Option.{unwrap_or}
use Rattle.pz_check_components.specs.declared.walk.State.{State}
use Rattle.pz_check_components.specs.declared.walk.State.TheVariants.{Unseen, Open, Done}
use Rattle.pz_check_components.specs.declared.walk.Group.{Group}
use Rattle.pz_check_components.specs.declared.walk.Walk.{Walk}
use Rattle.pz_check_components.specs.Graph.{targets}

pub record Walked : Type 0 where
  pub states : List State
  pub path : List ℕ
  pub groups : List Group
  pub pending : List ℕ
  pub found : List Group

abbrev pub walk_view : Walk → Walked
walk_view w = record { states = w.states.items; path = w.path.items; groups = w.groups.items; pending = w.pending.items; found = w.found.items }

-- what is no vertex is done, and comes first
abbrev pub state_of : List State → ℕ → State
state_of states v = unwrap_or (slice_get states v) (Done 0)

abbrev pub number : State → ℕ
number (Done c) = c
number (Open i) = 0
number Unseen = 0

abbrev pub done_all : List State → List ℕ → ℕ → List State
done_all states [] c = states
done_all states (v ∷ vs) c = done_all (slice_set states v (Done c)) vs c

-- the numbers below n
abbrev pub below : ℕ → List ℕ
below zero = []
below (suc n) = below n ++ n ∷ []

abbrev pub unseen : ℕ → List State
unseen zero = []
unseen (suc n) = unseen n ++ Unseen ∷ []

abbrev pub nothing_seen : List (List ℕ) → Walked
nothing_seen edges = record { states = unseen (length edges); path = []; groups = []; pending = below (length edges); found = [] }

-- the vertex comes to the path, as a group of its own, and its edges are to be followed
abbrev pub opened : List (List ℕ) → Walked → ℕ → Walked
opened edges w v = record {
  states = slice_set w.states v (Open (length w.path));
  path = w.path ++ v ∷ [];
  groups = w.groups ++ record { start = length w.path; pending = length w.pending } ∷ [];
  pending = w.pending ++ targets edges v;
  found = w.found;
}

-- the vertices of the group, which has left the groups, are a component
abbrev pub closed : Walked → Group → Walked
closed w g = record {
  states = done_all w.states (drop g.start w.path) (length w.found);
  path = take g.start w.path;
  groups = w.groups;
  pending = w.pending;
  found = w.found ++ g ∷ [];
}

abbrev pub last_of : List Group → Option Group
last_of groups = slice_get groups (length groups - 1)

abbrev pub followed_group : Walked → Option Group
followed_group w = option_and_then (λ g. if nat_le (length w.pending) g.pending then Some g else None) (last_of w.groups)

abbrev pub is_at_end : Walked → Bool
is_at_end w = nat_eq (length w.groups) 0 && nat_eq (length w.pending) 0

-- what is left to be done for a vertex with these edges
abbrev pub cost : List ℕ → State → ℕ
cost vs Unseen = length vs + 2
cost vs (Open i) = 0
cost vs (Done c) = 0

abbrev pub to_open : List (List ℕ) → List State → ℕ
to_open [] ss = 0
to_open (e ∷ es) [] = 0
to_open (e ∷ es) (s ∷ ss) = cost e s + to_open es ss

abbrev pub one_unseen : State → ℕ
one_unseen Unseen = 1
one_unseen (Open i) = 0
one_unseen (Done c) = 0

-- how many vertices the walk has not come to
abbrev pub count_unseen : List State → ℕ
count_unseen [] = 0
count_unseen (s ∷ ss) = one_unseen s + count_unseen ss

-- how many steps are left at most
abbrev pub left : List (List ℕ) → Walked → ℕ
left edges w = length w.pending + (length w.groups + to_open edges w.states)
