-- An edge is followed to what is not seen yet.
use Rattle.std.proofs.Common.{◌≡◌, ◌≢◌, sym, ap, subst, ◌∙◌, ℕ, ◌+◌, ◌<◌, ◌≤◌, ◌⊎◌, inl, inr, List, [], ◌∷◌, ◌++◌, length, length-append, arith}
use Rattle.std.specs.List.{Contains}
use Rattle.std.proofs.Math.ListN.{set, length-set}
use Rattle.std.proofs.lemmas.List.{length_push}
use Rattle.pz_check_components.specs.declared.walk.State.{State}
use Rattle.pz_check_components.specs.declared.walk.State.TheVariants.{Unseen, Open, Done}
use Rattle.pz_check_components.specs.declared.walk.Group.{Group}
use Rattle.pz_check_components.specs.Graph.{targets, Reaches, itself}
use Rattle.pz_check_components.specs.devices.Walking.{Walked, state_of, opened, to_open, count_unseen}
use Rattle.pz_check_components.specs.devices.IsWalk.{At, NoStart, IsFollowed, to_done, to_open as known_open, WaitsFor, IsWaiting, HasSource, IsWalk, IsOpenEnded, Advances}
use Rattle.pz_check_components.proofs.Places.{within, Pushed, before, last, pushed, at_last, in_first, in_second, Part, first, second, part, is_member, place}
use Rattle.pz_check_components.proofs.States.{same_number, set_same, set_other, at_state, is_at, unseen_within}
use Rattle.pz_check_components.proofs.Walks.{size, earlier, waits, room, reaches_next}
use Rattle.pz_check_components.proofs.Costs.{to_open-opened, count_unseen-opened}

module _ (edges : List (List ℕ)) (w : Walked) (walk : IsWalk edges w) (p : List ℕ) (v : ℕ) (here : w.pending ≡ p ++ v ∷ []) (ended : IsOpenEnded w) (unseen : state_of w.states v ≡ Unseen) where
  abbrev n : ℕ
  n = length w.path

  abbrev top : Group
  top = record { start = n; pending = length p }

  abbrev gs : List Group
  gs = w.groups ++ top ∷ []

  abbrev states : List State
  states = set w.states v (Open n)

  abbrev new : Walked
  new = record { states = states; path = w.path ++ v ∷ []; groups = gs; pending = p ++ targets edges v; found = w.found }

  is_open : state_of states v ≡ Open n
  is_open = set_same w.states v (Open n) (unseen_within w.states v unseen)

  -- an open vertex is the new one, or was open
  data Opened (x i : ℕ) : Type 0 where
    this : v ≡ x → n ≡ i → Opened x i
    other : state_of w.states x ≡ Open i → Opened x i

  open_before : (x i : ℕ) → state_of states x ≡ Open i → Opened x i
  open_before x i is = by_vertex (same_number x v)
    where
      by_vertex : (x ≡ v) ⊎ (x ≢ v) → Opened x i
      by_vertex (inl same) =
          let both : state_of states v ≡ Open i = ap (state_of states) (sym same) ∙ is in
          let equal : Open n ≡ Open i = sym is_open ∙ both in
          this (sym same) cc
      by_vertex (inr apart) = other (sym (set_other w.states v x (Open n) apart) ∙ is)

  -- what was seen stays
  kept : (x : ℕ) (s : State) → state_of w.states x ≡ s → s ≢ Unseen → state_of states x ≡ s
  kept x s is seen = set_other w.states v x (Open n) (λ same. seen (sym is ∙ (ap (state_of w.states) same ∙ unseen))) ∙ is

  open_after : (x i : ℕ) → state_of w.states x ≡ Open i → state_of states x ≡ Open i
  open_after x i is = kept x (Open i) is (λ wrong. cc)

  done_after : (x c : ℕ) → state_of w.states x ≡ Done c → state_of states x ≡ Done c
  done_after x c is = kept x (Done c) is (λ wrong. cc)

  -- what is not open now was so before
  was : (x : ℕ) (s : State) → state_of states x ≡ s → s ≢ Open n → (x ≢ v) × (state_of w.states x ≡ s)
  was x s is closed =
      let apart : x ≢ v = λ same. closed (sym is ∙ (ap (state_of states) same ∙ is_open)) in
      (apart, sym (set_other w.states v x (Open n) apart) ∙ is)

  done_before : (x c : ℕ) → state_of states x ≡ Done c → state_of w.states x ≡ Done c
  done_before x c is = (was x (Done c) is (λ wrong. cc)).1

  at_before : (x c : ℕ) → At states x (Done c) → At w.states x (Done c)
  at_before x c at =
      let inside : x < length states = within states x (Done c) at in
      let count : length states ≡ length w.states = length-set w.states v (Open n) in
      is_at w.states x (Done c) (omega arith) (done_before x c (at_state states x (Done c) at))

  low : (x i : ℕ) → state_of w.states x ≡ Open i → i < n
  low x i is = within w.path i x (walk.path.on_path i x is)

  old_starts : (a : ℕ) (g : Group) → At w.groups a g → g.start ≤ n
  old_starts a g at = (walk.groups.bounded a g at).0

  old_room : (a : ℕ) (g : Group) → At w.groups a g → g.pending ≤ length p
  old_room a g at = room edges w walk p v here ended a g at

  all_starts : (a : ℕ) (g : Group) → At gs a g → g.start ≤ n
  all_starts a g at = by_group (pushed w.groups top a g at)
    where
      by_group : Pushed w.groups top a g → g.start ≤ n
      by_group (before there) = old_starts a g there
      by_group (last _ same) = rw (← same) (omega arith)

  all_room : (a : ℕ) (g : Group) → At gs a g → g.pending ≤ length p
  all_room a g at = by_group (pushed w.groups top a g at)
    where
      by_group : Pushed w.groups top a g → g.pending ≤ length p
      by_group (before there) = old_room a g there
      by_group (last _ same) = rw (← same) (omega arith)

  -- a group that starts by an old place is an old one
  old_group : (a i : ℕ) (g : Group) → At gs a g → g.start ≤ i → i < n → At w.groups a g
  old_group a i g at starts less = by_group (pushed w.groups top a g at)
    where
      by_group : Pushed w.groups top a g → At w.groups a g
      by_group (before there) = there
      by_group (last _ same) = let first_place : top.start ≡ g.start = ap (λ (x : Group). x.start) same in absurd (omega arith)

  placed : (i x : ℕ) → At (w.path ++ v ∷ []) i x → state_of states x ≡ Open i
  placed i x at = by_place (pushed w.path v i x at)
    where
      by_place : Pushed w.path v i x → state_of states x ≡ Open i
      by_place (before there) = open_after x i (walk.path.placed i x there)
      by_place (last is same) = rw (is, ← same) is_open

  on_path : (i x : ℕ) → state_of states x ≡ Open i → At (w.path ++ v ∷ []) i x
  on_path i x is = by_vertex (open_before x i is)
    where
      by_vertex : Opened x i → At (w.path ++ v ∷ []) i x
      by_vertex (this same count) = rw (← same, ← count) (at_last w.path v)
      by_vertex (other was_open) = in_first w.path (v ∷ []) i x (walk.path.on_path i x was_open)

  grouped : (i x : ℕ) → state_of states x ≡ Open i → (a : ℕ) × (g : Group) × At gs a g × (g.start ≤ i)
  grouped i x is = by_vertex (open_before x i is)
    where
      old_one : (a : ℕ) × (g : Group) × At w.groups a g × (g.start ≤ i) → (a : ℕ) × (g : Group) × At gs a g × (g.start ≤ i)
      old_one (a, g, at, starts) = (a, g, in_first w.groups (top ∷ []) a g at, starts)

      by_vertex : Opened x i → (a : ℕ) × (g : Group) × At gs a g × (g.start ≤ i)
      by_vertex (this same count) = (length w.groups, top, at_last w.groups top, omega arith)
      by_vertex (other was_open) = old_one (walk.path.grouped i x was_open)

  ordered : (a b : ℕ) (g h : Group) → At gs a g → At gs b h → a ≤ b → (g.start ≤ h.start) × (g.pending ≤ h.pending)
  ordered a b g h at there less = by_group (pushed w.groups top a g at) (pushed w.groups top b h there)
    where
      by_group : Pushed w.groups top a g → Pushed w.groups top b h → (g.start ≤ h.start) × (g.pending ≤ h.pending)
      by_group (before first_at) (before second_at) = walk.groups.ordered a b g h first_at second_at less
      by_group (last is same) (before second_at) = let inside : b < length w.groups = within w.groups b h second_at in absurd (omega arith)
      by_group _ (last _ same) = rw (← same) (all_starts a g at, all_room a g at)

  bounded : (a : ℕ) (g : Group) → At gs a g → (g.start ≤ length (w.path ++ v ∷ [])) × (g.pending ≤ length (p ++ targets edges v))
  bounded a g at =
      let starts : g.start ≤ n = all_starts a g at in
      let space : g.pending ≤ length p = all_room a g at in
      let longer : length (w.path ++ v ∷ []) ≡ n + 1 = length_push w.path v in
      let more : length (p ++ targets edges v) ≡ length p + length (targets edges v) = length-append p (targets edges v) in
      (omega arith, omega arith)

  downward : (x u c : ℕ) → state_of states x ≡ Done c → Contains (targets edges x) u → (d : ℕ) × (state_of states u ≡ Done d) × (d ≤ c)
  downward x u c is leaves = let old = walk.done.downward x u c (done_before x c is) leaves in (old.0, done_after u old.0 old.1, old.2)

  leads : (i j x y : ℕ) → state_of states x ≡ Open i → state_of states y ≡ Open j → NoStart gs i j → Reaches edges x y
  leads i j x y is there none = by_vertices (open_before x i is) (open_before y j there)
    where
      to_this : state_of w.states x ≡ Open i → v ≡ y → Reaches edges x y
      to_this was_open same = subst (Reaches edges x) same (reaches_next edges w walk p v here ended i x was_open)

      by_vertices : Opened x i → Opened y j → Reaches edges x y
      by_vertices (this same _) (this again _) = subst (Reaches edges x) (sym same ∙ again) itself
      by_vertices (this _ count) (other was_open) =
          let less : j < n = low y j was_open in
          let starts : top.start ≤ j = none.no_start (length w.groups) top (at_last w.groups top) (omega arith) in
          absurd (omega arith)
      by_vertices (other was_open) (this same _) = to_this was_open same
      by_vertices (other was_open) (other then_open) = walk.leads i j x y was_open then_open (record { no_start = λ a g at starts. none.no_start a g (in_first w.groups (top ∷ []) a g at) starts })

  still_waits : (i k : ℕ) → i < n → WaitsFor w.groups i k → WaitsFor gs i k
  still_waits i k less all = record { waits_for = λ a g at starts. all.waits_for a g (old_group a i g at starts less) starts }

  edge : (i x u : ℕ) → state_of states x ≡ Open i → Contains (targets edges x) u → IsFollowed new i u ⊎ IsWaiting new i u
  edge i x u is leaves = by_vertex (open_before x i is)
    where
      new_place : v ≡ x → (k : ℕ) × At (targets edges x) k u → IsFollowed new i u ⊎ IsWaiting new i u
      new_place same (k, at) = inr (record {
        at = length p + k;
        there = in_second p (targets edges v) k u (rw same at);
        after = record { waits_for = λ a g there _. (let space : g.pending ≤ length p = all_room a g there in omega arith) };
      })

      by_place : (k : ℕ) → i < n → WaitsFor w.groups i k → Pushed p v k u → IsFollowed new i u ⊎ IsWaiting new i u
      by_place k less all (before at) = inr (record { at = k; there = in_first p (targets edges v) k u at; after = still_waits i k less all })
      by_place k less all (last _ same) = inl (subst (IsFollowed new i) same (known_open n is_open (record { no_start = λ a g at _. all_starts a g at })))

      as_before : i < n → IsFollowed w i u → IsFollowed new i u
      as_before less (to_done c done) = to_done c (done_after u c done)
      as_before less (known_open j opens none) = known_open j (open_after u j opens) (record { no_start = λ a g at starts. none.no_start a g (old_group a i g at starts less) starts })

      by_old : i < n → IsFollowed w i u ⊎ IsWaiting w i u → IsFollowed new i u ⊎ IsWaiting new i u
      by_old less (inl old) = inl (as_before less old)
      by_old less (inr old) = by_place old.at less old.after (waits edges w walk p v here ended old.at u old.there)

      by_vertex : Opened x i → IsFollowed new i u ⊎ IsWaiting new i u
      by_vertex (this same _) = new_place same (place (targets edges x) u leaves)
      by_vertex (other was_open) = by_old (low x i was_open) (walk.edge i x u was_open leaves)

  source : (k u a : ℕ) (g : Group) → At (p ++ targets edges v) k u → At gs a g → g.pending ≤ k → HasSource edges new k u g
  source k u a g at there space = by_part (part p (targets edges v) k u at) (pushed w.groups top a g there)
    where
      as_before : HasSource edges w k u g → HasSource edges new k u g
      as_before s = record { from = s.from; place = s.place; stands = open_after s.from s.place s.stands; leads = s.leads; later = s.later; after = still_waits s.place k (low s.from s.place s.stands) s.after }

      by_part : Part p (targets edges v) k u → Pushed w.groups top a g → HasSource edges new k u g
      by_part (first old) (before old_there) = as_before (walk.source k u a g (earlier edges w walk p v here ended k u old) old_there space)
      by_part (first old) (last _ same) =
          let inside : k < length p = within p k u old in
          let count : top.pending ≡ g.pending = ap (λ (x : Group). x.pending) same in
          absurd (omega arith)
      by_part (second j is new_at) _ = record {
        from = v;
        place = n;
        stands = is_open;
        leads = is_member (targets edges v) j u new_at;
        later = all_starts a g there;
        after = record { waits_for = λ b h h_at _. (let more : h.pending ≤ length p = all_room b h h_at in omega arith) };
      }

  still_unseen : (x : ℕ) → state_of states x ≡ Unseen → (k : ℕ) × At (p ++ targets edges v) k x
  still_unseen x is = by_was (was x Unseen is (λ wrong. cc))
    where
      by_pushed : (k : ℕ) → x ≢ v → Pushed p v k x → (k : ℕ) × At (p ++ targets edges v) k x
      by_pushed k apart (before at) = (k, in_first p (targets edges v) k x at)
      by_pushed k apart (last _ same) = absurd (apart (sym same))

      by_place : x ≢ v → (k : ℕ) × At w.pending k x → (k : ℕ) × At (p ++ targets edges v) k x
      by_place apart (k, at) = by_pushed k apart (waits edges w walk p v here ended k x at)

      by_was : (x ≢ v) × (state_of w.states x ≡ Unseen) → (k : ℕ) × At (p ++ targets edges v) k x
      by_was (apart, old) = by_place apart (walk.unseen x old)

  walks : IsWalk edges new
  walks = record {
    sized = length-set w.states v (Open n) ∙ walk.sized;
    few =
        let group : length gs ≡ length w.groups + 1 = length_push w.groups top in
        let one : count_unseen states + 1 ≡ count_unseen w.states = count_unseen-opened w.states v n unseen in
        let before : length w.found + (length w.groups + count_unseen w.states) ≤ length edges = walk.few in
        omega arith;
    path = record { placed = placed; on_path = on_path; grouped = grouped };
    groups = record { ordered = ordered; bounded = bounded };
    done = record {
      downward = downward;
      together = λ x y c at there. walk.done.together x y c (at_before x c at) (at_before y c there);
      numbered = λ x c at. walk.done.numbered x c (at_before x c at);
    };
    leads = leads;
    edge = edge;
    source = source;
    unseen = still_unseen;
  }

  -- one step further on
  pub opens : Advances edges w (opened edges (record { states = w.states; path = w.path; groups = w.groups; pending = p; found = w.found }) v)
  opens = record {
    walks = walks;
    nearer =
        let one : length w.pending ≡ length p + 1 = size edges w walk p v here ended in
        let more : length (p ++ targets edges v) ≡ length p + length (targets edges v) = length-append p (targets edges v) in
        let group : length gs ≡ length w.groups + 1 = length_push w.groups top in
        let rest : to_open edges states + (length (targets edges v) + 2) ≡ to_open edges w.states = to_open-opened edges w.states v n walk.sized unseen in
        omega arith;
  }
