-- The last group becomes a component.
use Rattle.std.proofs.Common.{◌≡◌, refl, sym, ap, subst, ◌∙◌, ℕ, ◌+◌, ◌-◌, ◌<◌, ◌≤◌, ◌⊎◌, inl, inr, List, [], ◌∷◌, ◌++◌, length, take, drop, arith}
use Rattle.std.specs.List.{Contains}
use Rattle.std.proofs.lemmas.List.{length_push, length-take-le}
use Rattle.pz_check_components.specs.declared.walk.State.{State}
use Rattle.pz_check_components.specs.declared.walk.State.TheVariants.{Unseen, Open, Done}
use Rattle.pz_check_components.specs.declared.walk.Group.{Group}
use Rattle.pz_check_components.specs.Graph.{targets, Reaches}
use Rattle.pz_check_components.specs.devices.Walking.{Walked, state_of, done_all, closed, left}
use Rattle.pz_check_components.specs.devices.Walking as walking
use Rattle.pz_check_components.specs.devices.IsWalk.{At, NoStart, IsFollowed, to_done, to_open, WaitsFor, IsWaiting, HasSource, IsWalk, Advances}
use Rattle.pz_check_components.proofs.Places.{within, Pushed, before, last, pushed, at_last, in_first, of_taken, is_taken, of_dropped, is_dropped}
use Rattle.pz_check_components.proofs.States.{two_ways, at_state, is_at, past, open_within, length-done_all, done_other, done_same}
use Rattle.pz_check_components.proofs.Costs.{to_open-done_all, count_unseen-done_all}

module _ (edges : List (List ℕ)) (w : Walked) (walk : IsWalk edges w) (gs : List Group) (g : Group) (here : w.groups ≡ gs ++ g ∷ []) (all : length w.pending ≤ g.pending) where
  abbrev c : ℕ
  c = length w.found

  abbrev states : List State
  states = done_all w.states (drop g.start w.path) c

  abbrev new : Walked
  new = record { states = states; path = take g.start w.path; groups = gs; pending = w.pending; found = w.found ++ g ∷ [] }

  from : (a : ℕ) (h : Group) → At gs a h → At w.groups a h
  from a h at = rw here (in_first gs (g ∷ []) a h at)

  g_at : At w.groups (length gs) g
  g_at = rw here (at_last gs g)

  most : (a : ℕ) (h : Group) → At w.groups a h → h.start ≤ g.start
  most a h at =
      let inside : a < length w.groups = within w.groups a h at in
      let count : length w.groups ≡ length gs + 1 = ap (λ (x : List Group). length x) here ∙ length_push gs g in
      (walk.groups.ordered a (length gs) h g at g_at (omega arith)).0

  -- a group that starts before the last one stays
  still_there : (a i : ℕ) (h : Group) → At w.groups a h → h.start ≤ i → i < g.start → At gs a h
  still_there a i h at starts less = by_group (pushed gs g a h (rw here at at))
    where
      by_group : Pushed gs g a h → At gs a h
      by_group (before there) = there
      by_group (last _ same) = let first_place : g.start ≡ h.start = ap (λ (x : Group). x.start) same in absurd (omega arith)

  -- what becomes of a vertex
  stays : (x : ℕ) → ((i : ℕ) → state_of w.states x ≡ Open i → i < g.start) → state_of states x ≡ state_of w.states x
  stays x early = done_other w.states (drop g.start w.path) c x (λ k at.
      (let less : g.start + k < g.start = early (g.start + k) (walk.path.placed (g.start + k) x (of_dropped g.start w.path k x at)) in omega arith))

  leaves : (x i : ℕ) → state_of w.states x ≡ Open i → g.start ≤ i → state_of states x ≡ Done c
  leaves x i is late =
      let sum : i ≡ g.start + (i - g.start) = omega arith in
      done_same w.states (drop g.start w.path) c (i - g.start) x (open_within w.states x i is) (is_dropped g.start w.path (i - g.start) x (subst (λ (k : ℕ). At w.path k x) sum (walk.path.on_path i x is)))

  open_after : (x i : ℕ) → state_of w.states x ≡ Open i → i < g.start → state_of states x ≡ Open i
  open_after x i is less = stays x (λ j again. (let same : Open i ≡ Open j = sym is ∙ again in let equal : i ≡ j = cc in omega arith)) ∙ is

  done_after : (x d : ℕ) → state_of w.states x ≡ Done d → state_of states x ≡ Done d
  done_after x d is = stays x (λ j again. absurd (let wrong : Done d ≡ Open j = sym is ∙ again in cc)) ∙ is

  unseen_after : (x : ℕ) → state_of w.states x ≡ Unseen → state_of states x ≡ Unseen
  unseen_after x is = stays x (λ j again. absurd (let wrong : Unseen ≡ Open j = sym is ∙ again in cc)) ∙ is

  data Was (x : ℕ) : State → Type 0 where
    still : (s : State) → state_of w.states x ≡ s → ((i : ℕ) → s ≡ Open i → i < g.start) → Was x s
    left_now : (i : ℕ) → state_of w.states x ≡ Open i → g.start ≤ i → Was x (Done c)

  was : (x : ℕ) (s : State) → state_of states x ≡ s → Was x s
  was x s is = by_state (state_of w.states x) refl
    where
      by_way : (i : ℕ) → state_of w.states x ≡ Open i → (i < g.start) ⊎ (g.start ≤ i) → Was x s
      by_way i old (inl less) =
          let same : Open i ≡ s = sym (open_after x i old less) ∙ is in
          subst (Was x) same (still (Open i) old (λ j again. (let equal : i ≡ j = cc in omega arith)))
      by_way i old (inr late) = let same : Done c ≡ s = sym (leaves x i old late) ∙ is in subst (Was x) same (left_now i old late)

      by_state : (t : State) → state_of w.states x ≡ t → Was x s
      by_state Unseen old = let same : Unseen ≡ s = sym (unseen_after x old) ∙ is in subst (Was x) same (still Unseen old (λ j again. absurd (let wrong : Unseen ≡ Open j = again in cc)))
      by_state (Open i) old = by_way i old (two_ways i g.start)
      by_state (Done d) old = let same : Done d ≡ s = sym (done_after x d old) ∙ is in subst (Was x) same (still (Done d) old (λ j again. absurd (let wrong : Done d ≡ Open j = again in cc)))

  open_before : (x i : ℕ) → state_of states x ≡ Open i → (state_of w.states x ≡ Open i) × (i < g.start)
  open_before x i is = by_was (Open i) (was x (Open i) is) refl
    where
      by_was : (s : State) → Was x s → s ≡ Open i → (state_of w.states x ≡ Open i) × (i < g.start)
      by_was _ (still s old early) same = (old ∙ same, early i same)
      by_was _ (left_now j old late) same = absurd (let wrong : Done c ≡ Open i = same in cc)

  -- what is done was so before, or has left just now
  data Closed (x d : ℕ) : Type 0 where
    earlier : state_of w.states x ≡ Done d → Closed x d
    now : c ≡ d → (i : ℕ) → state_of w.states x ≡ Open i → g.start ≤ i → Closed x d

  done_before : (x d : ℕ) → state_of states x ≡ Done d → Closed x d
  done_before x d is = by_was (Done d) (was x (Done d) is) refl
    where
      by_was : (s : State) → Was x s → s ≡ Done d → Closed x d
      by_was _ (still s old early) same = earlier (old ∙ same)
      by_was _ (left_now j old late) same = now (cc) j old late

  unseen_before : (x : ℕ) → state_of states x ≡ Unseen → state_of w.states x ≡ Unseen
  unseen_before x is = by_was Unseen (was x Unseen is) refl
    where
      by_was : (s : State) → Was x s → s ≡ Unseen → state_of w.states x ≡ Unseen
      by_was _ (still s old early) same = old ∙ same
      by_was _ (left_now j old late) same = absurd (let wrong : Done c ≡ Unseen = same in cc)

  at_old : (x d : ℕ) → At states x (Done d) → state_of w.states x ≡ Done d → At w.states x (Done d)
  at_old x d at is =
      let inside : x < length states = within states x (Done d) at in
      let count : length states ≡ length w.states = length-done_all w.states (drop g.start w.path) c in
      is_at w.states x (Done d) (omega arith) is

  -- a number that is given is one of those that are
  in_count : (x d : ℕ) → state_of w.states x ≡ Done d → d ≤ c
  in_count x d is = by_way (two_ways x (length w.states))
    where
      by_way : (x < length w.states) ⊎ (length w.states ≤ x) → d ≤ c
      by_way (inl inside) = let less : d < c = walk.done.numbered x d (is_at w.states x (Done d) inside is) in omega arith
      by_way (inr beyond) = let same : Done 0 ≡ Done d = sym (past w.states x beyond) ∙ is in let none : 0 ≡ d = cc in omega arith

  -- no edge of the group is to be followed any more
  no_waiting : (i u : ℕ) → g.start ≤ i → IsWaiting w i u → ⊥
  no_waiting i u late waits =
      let enough : g.pending ≤ waits.at = waits.after.waits_for (length gs) g g_at late in
      let inside : waits.at < length w.pending = within w.pending waits.at u waits.there in
      omega arith

  followed : (x i u : ℕ) → state_of w.states x ≡ Open i → g.start ≤ i → Contains (targets edges x) u → (d : ℕ) × (state_of states u ≡ Done d) × (d ≤ c)
  followed x i u is late edge = by_edge (walk.edge i x u is edge)
    where
      by_end : IsFollowed w i u → (d : ℕ) × (state_of states u ≡ Done d) × (d ≤ c)
      by_end (to_done d done) = (d, done_after u d done, in_count u d done)
      by_end (to_open j opens none) = (c, leaves u j opens (none.no_start (length gs) g g_at late), omega arith)

      by_edge : IsFollowed w i u ⊎ IsWaiting w i u → (d : ℕ) × (state_of states u ≡ Done d) × (d ≤ c)
      by_edge (inl end) = by_end end
      by_edge (inr waits) = absurd (no_waiting i u late waits)

  downward : (x u d : ℕ) → state_of states x ≡ Done d → Contains (targets edges x) u → (e : ℕ) × (state_of states u ≡ Done e) × (e ≤ d)
  downward x u d is edge = by_closed (done_before x d is)
    where
      by_closed : Closed x d → (e : ℕ) × (state_of states u ≡ Done e) × (e ≤ d)
      by_closed (earlier old) = let end = walk.done.downward x u d old edge in (end.0, done_after u end.0 end.1, end.2)
      by_closed (now same i old late) = let end = followed x i u old late edge in (end.0, end.1, (let less : end.0 ≤ c = end.2 in omega arith))

  together : (x y d : ℕ) → At states x (Done d) → At states y (Done d) → Reaches edges x y
  together x y d at there = by_closed (done_before x d (at_state states x (Done d) at)) (done_before y d (at_state states y (Done d) there))
    where
      by_closed : Closed x d → Closed y d → Reaches edges x y
      by_closed (earlier old) (earlier also) = walk.done.together x y d (at_old x d at old) (at_old y d there also)
      by_closed (earlier old) (now same j _ _) = let less : d < c = walk.done.numbered x d (at_old x d at old) in absurd (omega arith)
      by_closed (now same i _ _) (earlier also) = let less : d < c = walk.done.numbered y d (at_old y d there also) in absurd (omega arith)
      by_closed (now _ i old late) (now _ j also too) = walk.leads i j x y old also (record { no_start = λ a h h_at _. (let less : h.start ≤ g.start = most a h h_at in omega arith) })

  numbered : (x d : ℕ) → At states x (Done d) → d < length (w.found ++ g ∷ [])
  numbered x d at = by_closed (done_before x d (at_state states x (Done d) at))
    where
      one : length (w.found ++ g ∷ []) ≡ c + 1
      one = length_push w.found g

      by_closed : Closed x d → d < length (w.found ++ g ∷ [])
      by_closed (earlier old) = let less : d < c = walk.done.numbered x d (at_old x d at old) in omega (arith, one)
      by_closed (now same _ _ _) = omega (arith, one)

  placed : (i x : ℕ) → At (take g.start w.path) i x → state_of states x ≡ Open i
  placed i x at = let old = of_taken g.start w.path i x at in open_after x i (walk.path.placed i x old.0) old.1

  on_path : (i x : ℕ) → state_of states x ≡ Open i → At (take g.start w.path) i x
  on_path i x is = let old = open_before x i is in is_taken g.start w.path i x (walk.path.on_path i x old.0) old.1

  grouped : (i x : ℕ) → state_of states x ≡ Open i → (a : ℕ) × (h : Group) × At gs a h × (h.start ≤ i)
  grouped i x is = by_old (open_before x i is)
    where
      by_group : i < g.start → (a : ℕ) × (h : Group) × At w.groups a h × (h.start ≤ i) → (a : ℕ) × (h : Group) × At gs a h × (h.start ≤ i)
      by_group less (a, h, at, starts) = (a, h, still_there a i h at starts less, starts)

      by_old : (state_of w.states x ≡ Open i) × (i < g.start) → (a : ℕ) × (h : Group) × At gs a h × (h.start ≤ i)
      by_old (old, less) = by_group less (walk.path.grouped i x old)

  bounded : (a : ℕ) (h : Group) → At gs a h → (h.start ≤ length (take g.start w.path)) × (h.pending ≤ length w.pending)
  bounded a h at =
      let starts : h.start ≤ g.start = most a h (from a h at) in
      let inside : g.start ≤ length w.path = (walk.groups.bounded (length gs) g g_at).0 in
      let size : length (take g.start w.path) ≡ g.start = length-take-le g.start w.path inside in
      (omega arith, (walk.groups.bounded a h (from a h at)).1)

  leads : (i j x y : ℕ) → state_of states x ≡ Open i → state_of states y ≡ Open j → NoStart gs i j → Reaches edges x y
  leads i j x y is there none =
      let one = open_before x i is in
      let two = open_before y j there in
      walk.leads i j x y one.0 two.0 (record { no_start = λ a h at starts. none.no_start a h (still_there a i h at starts one.1) starts })

  fewer_wait : (i k : ℕ) → WaitsFor w.groups i k → WaitsFor gs i k
  fewer_wait i k waits = record { waits_for = λ a h at starts. waits.waits_for a h (from a h at) starts }

  edge : (i x u : ℕ) → state_of states x ≡ Open i → Contains (targets edges x) u → IsFollowed new i u ⊎ IsWaiting new i u
  edge i x u is goes = by_edge (walk.edge i x u (open_before x i is).0 goes)
    where
      by_way : (j : ℕ) → state_of w.states u ≡ Open j → NoStart w.groups i j → (j < g.start) ⊎ (g.start ≤ j) → IsFollowed new i u
      by_way j opens none (inl less) = to_open j (open_after u j opens less) (record { no_start = λ a h at starts. none.no_start a h (from a h at) starts })
      by_way j opens none (inr late) = to_done c (leaves u j opens late)

      by_end : IsFollowed w i u → IsFollowed new i u
      by_end (to_done d done) = to_done d (done_after u d done)
      by_end (to_open j opens none) = by_way j opens none (two_ways j g.start)

      by_edge : IsFollowed w i u ⊎ IsWaiting w i u → IsFollowed new i u ⊎ IsWaiting new i u
      by_edge (inl end) = inl (by_end end)
      by_edge (inr waits) = inr (record { at = waits.at; there = waits.there; after = fewer_wait i waits.at waits.after })

  source : (k u a : ℕ) (h : Group) → At w.pending k u → At gs a h → h.pending ≤ k → HasSource edges new k u h
  source k u a h at there space = by_source (walk.source k u a h at (from a h there) space)
    where
      by_way : (s : HasSource edges w k u h) → (s.place < g.start) ⊎ (g.start ≤ s.place) → HasSource edges new k u h
      by_way s (inl less) = record { from = s.from; place = s.place; stands = open_after s.from s.place s.stands less; leads = s.leads; later = s.later; after = fewer_wait s.place k s.after }
      by_way s (inr late) =
          let enough : g.pending ≤ k = s.after.waits_for (length gs) g g_at late in
          let inside : k < length w.pending = within w.pending k u at in
          absurd (omega arith)

      by_source : HasSource edges w k u h → HasSource edges new k u h
      by_source s = by_way s (two_ways s.place g.start)

  walks : IsWalk edges new
  walks = record {
    sized = length-done_all w.states (drop g.start w.path) c ∙ walk.sized;
    few =
        let one : length (w.found ++ g ∷ []) ≡ c + 1 = length_push w.found g in
        let count : length w.groups ≡ length gs + 1 = ap (λ (x : List Group). length x) here ∙ length_push gs g in
        let less : walking.count_unseen states ≤ walking.count_unseen w.states = count_unseen-done_all w.states (drop g.start w.path) c in
        let before : c + (length w.groups + walking.count_unseen w.states) ≤ length edges = walk.few in
        omega arith;
    path = record { placed = placed; on_path = on_path; grouped = grouped };
    groups = record { ordered = λ a b h k at there less. walk.groups.ordered a b h k (from a h at) (from b k there) less; bounded = bounded };
    done = record { downward = downward; together = together; numbered = numbered };
    leads = leads;
    edge = edge;
    source = source;
    unseen = λ x is. walk.unseen x (unseen_before x is);
  }

  -- one step further on
  pub closes : Advances edges w (closed (record { states = w.states; path = w.path; groups = gs; pending = w.pending; found = w.found }) g)
  closes = record {
    walks = walks;
    nearer =
        let count : length w.groups ≡ length gs + 1 = ap (λ (x : List Group). length x) here ∙ length_push gs g in
        let rest : walking.to_open edges states ≤ walking.to_open edges w.states = to_open-done_all edges w.states (drop g.start w.path) c in
        omega arith;
  }
