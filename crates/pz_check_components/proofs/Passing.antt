-- An edge is followed to where the walk has been.
use Rattle.std.proofs.Common.{◌≡◌, ◌≢◌, sym, ap, subst, ◌∙◌, ℕ, ◌+◌, ◌<◌, ◌≤◌, ◌⊎◌, inl, inr, List, [], ◌∷◌, ◌++◌, length, arith}
use Rattle.std.specs.List.{Contains}
use Rattle.pz_check_components.specs.declared.walk.State.TheVariants.{Unseen, Open, Done}
use Rattle.pz_check_components.specs.declared.walk.Group.{Group}
use Rattle.pz_check_components.specs.Graph.{targets, Reaches}
use Rattle.pz_check_components.specs.devices.Walking.{Walked, state_of, count_unseen}
use Rattle.pz_check_components.specs.devices.IsWalk.{At, NoStart, IsFollowed, to_done, to_open, WaitsFor, IsWaiting, HasSource, IsWalk, IsOpenEnded, AreJoined, Advances}
use Rattle.pz_check_components.proofs.Places.{Pushed, before, last}
use Rattle.pz_check_components.proofs.States.{two_ways}
use Rattle.pz_check_components.proofs.Walks.{reaches_on, size, earlier, waits, room, reaches_next}

module _ (edges : List (List ℕ)) (w : Walked) (walk : IsWalk edges w) (p : List ℕ) (v : ℕ) (here : w.pending ≡ p ++ v ∷ []) (ended : IsOpenEnded w) where
  abbrev passed_to : List Group → Walked
  passed_to gs = record { states = w.states; path = w.path; groups = gs; pending = p; found = w.found }

  module _ (gs : List Group) (from : (a : ℕ) (g : Group) → At gs a g → At w.groups a g)
      (grouped : (i x : ℕ) → state_of w.states x ≡ Open i → (a : ℕ) × (g : Group) × At gs a g × (g.start ≤ i))
      (leads : (i j x y : ℕ) → state_of w.states x ≡ Open i → state_of w.states y ≡ Open j → NoStart gs i j → Reaches edges x y)
      (followed : (i : ℕ) → IsFollowed (passed_to gs) i v) (seen : state_of w.states v ≢ Unseen) where
    fewer_wait : (i k : ℕ) → WaitsFor w.groups i k → WaitsFor gs i k
    fewer_wait i k all = record { waits_for = λ a g at low. all.waits_for a g (from a g at) low }

    edge : (i x u : ℕ) → state_of w.states x ≡ Open i → Contains (targets edges x) u → IsFollowed (passed_to gs) i u ⊎ IsWaiting (passed_to gs) i u
    edge i x u stands leaves = by_old (walk.edge i x u stands leaves)
      where
        as_before : IsFollowed w i u → IsFollowed (passed_to gs) i u
        as_before (to_done c is) = to_done c is
        as_before (to_open j is none) = to_open j is (record { no_start = λ a g at low. none.no_start a g (from a g at) low })

        by_place : (k : ℕ) → WaitsFor w.groups i k → Pushed p v k u → IsFollowed (passed_to gs) i u ⊎ IsWaiting (passed_to gs) i u
        by_place k all (before at) = inr (record { at = k; there = at; after = fewer_wait i k all })
        by_place k all (last is same) = inl (subst (IsFollowed (passed_to gs) i) same (followed i))

        by_old : IsFollowed w i u ⊎ IsWaiting w i u → IsFollowed (passed_to gs) i u ⊎ IsWaiting (passed_to gs) i u
        by_old (inl is) = inl (as_before is)
        by_old (inr is) = by_place is.at is.after (waits edges w walk p v here ended is.at u is.there)

    source : (k u a : ℕ) (g : Group) → At p k u → At gs a g → g.pending ≤ k → HasSource edges (passed_to gs) k u g
    source k u a g at there low =
        let s : HasSource edges w k u g = walk.source k u a g (earlier edges w walk p v here ended k u at) (from a g there) low in
        record { from = s.from; place = s.place; stands = s.stands; leads = s.leads; later = s.later; after = fewer_wait s.place k s.after }

    unseen : (x : ℕ) → state_of w.states x ≡ Unseen → (k : ℕ) × At p k x
    unseen x is = by_place (walk.unseen x is)
      where
        by_pushed : (k : ℕ) → Pushed p v k x → (k : ℕ) × At p k x
        by_pushed k (before at) = (k, at)
        by_pushed k (last _ same) = absurd (seen (ap (state_of w.states) same ∙ is))

        by_place : (k : ℕ) × At w.pending k x → (k : ℕ) × At p k x
        by_place (k, at) = by_pushed k (waits edges w walk p v here ended k x at)

    pub passed : length gs ≤ length w.groups → IsWalk edges (passed_to gs)
    passed fewer = record {
      sized = walk.sized;
      few = let before : length w.found + (length w.groups + count_unseen w.states) ≤ length edges = walk.few in omega arith;
      path = record { placed = walk.path.placed; on_path = walk.path.on_path; grouped = grouped };
      groups = record {
        ordered = λ a b g h at there less. walk.groups.ordered a b g h (from a g at) (from b h there) less;
        bounded = λ a g at. (let old = walk.groups.bounded a g (from a g at) in (old.0, room edges w walk p v here ended a g (from a g at)));
      };
      done = record { downward = walk.done.downward; together = walk.done.together; numbered = walk.done.numbered };
      leads = leads;
      edge = edge;
      source = source;
      unseen = unseen;
    }

    pub advances : length gs ≤ length w.groups → Advances edges w (passed_to gs)
    advances fewer = record { walks = passed fewer; nearer = let one : length w.pending ≡ length p + 1 = size edges w walk p v here ended in omega arith }

  -- to what is done
  pub to_component : (c : ℕ) → state_of w.states v ≡ Done c → Advances edges w (passed_to w.groups)
  to_component c is = advances w.groups (λ a g at. at) walk.path.grouped walk.leads (λ i. to_done c is) (λ unseen. (let wrong : Done c ≡ Unseen = sym is ∙ unseen in cc)) (omega arith)

  -- back to a place of the path
  pub back : (j : ℕ) → state_of w.states v ≡ Open j → (gs : List Group) → AreJoined j w.groups gs → ((a : ℕ) (g : Group) → At gs a g → g.start ≤ j) → Advances edges w (passed_to gs)
  back j stands gs joined low = advances gs joined.from grouped leads (λ i. to_open j stands (record { no_start = λ a g at _. low a g at })) (λ unseen. (let wrong : Open j ≡ Unseen = sym stands ∙ unseen in cc)) joined.fewer
    where
      by_way : (i a : ℕ) (g : Group) → At w.groups a g → g.start ≤ i → (j < g.start) ⊎ (g.start ≤ j) → (b : ℕ) × (h : Group) × At w.groups b h × (h.start ≤ j) → (a : ℕ) × (g : Group) × At gs a g × (g.start ≤ i)
      by_way i a g at less (inr kept) _ = (a, g, joined.kept a g at kept, less)
      by_way i a g at less (inl gone) (b, h, there, first) = (b, h, joined.kept b h there first, omega arith)

      by_group : (i : ℕ) → (a : ℕ) × (g : Group) × At w.groups a g × (g.start ≤ i) → (a : ℕ) × (g : Group) × At gs a g × (g.start ≤ i)
      by_group i (a, g, at, less) = by_way i a g at less (two_ways j g.start) (walk.path.grouped j v stands)

      grouped : (i x : ℕ) → state_of w.states x ≡ Open i → (a : ℕ) × (g : Group) × At gs a g × (g.start ≤ i)
      grouped i x is = by_group i (walk.path.grouped i x is)

      by_place : (i k x y : ℕ) → state_of w.states x ≡ Open i → state_of w.states y ≡ Open k → NoStart gs i k → (i < j) ⊎ (j ≤ i) → Reaches edges x y
      by_place i k x y is there none (inl less) = walk.leads i k x y is there (record { no_start = λ a g at small. none.no_start a g (joined.kept a g at (omega arith)) small })
      by_place i k x y is there none (inr more) = reaches_on edges x v y (reaches_next edges w walk p v here ended i x is) (walk.leads j k v y stands there (record { no_start = λ a g at small. none.no_start a g (joined.kept a g at small) (omega arith) }))

      leads : (i k x y : ℕ) → state_of w.states x ≡ Open i → state_of w.states y ≡ Open k → NoStart gs i k → Reaches edges x y
      leads i k x y is there none = by_place i k x y is there none (two_ways i j)
