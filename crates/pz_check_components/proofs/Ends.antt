-- How a walk begins, and what is known at its end.
use Rattle.std.proofs.Common.{◌≡◌, ◌↔◌, refl, sym, ap, subst, ◌∙◌, ℕ, zero, suc, ◌+◌, ◌<◌, ◌≤◌, ◌⊎◌, inl, inr, true, List, [], ◌∷◌, ◌++◌, map, length, Option, arith}
use Rattle.std.specs.List.{Contains}
use Rattle.std.specs.Option.{unwrap_or, option_map}
use Rattle.std.proofs.lemmas.Bool.Decides.{nat_tests}
use Rattle.std.proofs.lemmas.List.{length-map, length_push}
use Rattle.std.proofs.lemmas.Option.{slice_get-map}
use Rattle.pz_check_components.specs.declared.walk.State.{State}
use Rattle.pz_check_components.specs.declared.walk.State.TheVariants.{Unseen, Open, Done}
use Rattle.pz_check_components.specs.declared.walk.Group.{Group}
use Rattle.pz_check_components.specs.Graph.{targets, Reaches, itself, further, number_of, AreComponents}
use Rattle.pz_check_components.specs.devices.Walking.{Walked, state_of, number, below, unseen, count_unseen, nothing_seen, is_at_end}
use Rattle.pz_check_components.specs.devices.IsWalk.{At, IsWalk}
use Rattle.pz_check_components.proofs.Places.{within, no_place, Pushed, before, last, pushed, at_last, in_first}
use Rattle.pz_check_components.proofs.States.{two_ways, at_state, is_at, unseen_within, past}
use Rattle.pz_check_components.proofs.Costs.{count_unseen-all}

-- at first nothing is seen
length-unseen : (n : ℕ) → length (unseen n) ≡ n
length-unseen zero = refl
length-unseen (suc n) = let rest : length (unseen n) ≡ n = length-unseen n in length_push (unseen n) Unseen ∙ (omega arith)

all_unseen : (n v : ℕ) (s : State) → At (unseen n) v s → s ≡ Unseen
all_unseen zero v s at = absurd (no_place v s at)
all_unseen (suc n) v s at = by_place (pushed (unseen n) Unseen v s at) (all_unseen n v s)
  where
    by_place : Pushed (unseen n) Unseen v s → (At (unseen n) v s → s ≡ Unseen) → s ≡ Unseen
    by_place (before there) on = on there
    by_place (last _ same) on = sym same

length-below : (n : ℕ) → length (below n) ≡ n
length-below zero = refl
length-below (suc n) = let rest : length (below n) ≡ n = length-below n in length_push (below n) n ∙ (omega arith)

each_below : (n v : ℕ) → v < n → At (below n) v v
each_below zero v less = absurd (omega arith)
each_below (suc n) v less = by_way (two_ways v n) (each_below n v)
  where
    by_way : (v < n) ⊎ (n ≤ v) → (v < n → At (below n) v v) → At (below n ++ n ∷ []) v v
    by_way (inl small) on = in_first (below n) (n ∷ []) v v (on small)
    by_way (inr not) on =
        let same : v ≡ n = omega arith in
        let place : v ≡ length (below n) = same ∙ sym (length-below n) in
        subst (λ (k : ℕ). At (below n ++ n ∷ []) k v) (sym place) (rw same (at_last (below n) n))

module _ (edges : List (List ℕ)) where
  never_open : (v i : ℕ) → state_of (unseen (length edges)) v ≡ Open i → ⊥
  never_open v i is = by_way (two_ways v (length (unseen (length edges))))
    where
      by_way : (v < length (unseen (length edges))) ⊎ (length (unseen (length edges)) ≤ v) → ⊥
      by_way (inl inside) = let wrong : Open i ≡ Unseen = all_unseen (length edges) v (Open i) (is_at (unseen (length edges)) v (Open i) inside is) in cc
      by_way (inr beyond) = let wrong : Done 0 ≡ Open i = sym (past (unseen (length edges)) v beyond) ∙ is in cc

  never_done : (v c : ℕ) → At (unseen (length edges)) v (Done c) → ⊥
  never_done v c at = let wrong : Done c ≡ Unseen = all_unseen (length edges) v (Done c) at in cc

  -- no edge leaves what is no vertex
  no_targets : (es : List (List ℕ)) (v u : ℕ) → length es ≤ v → Contains (targets es v) u → ⊥
  no_targets [] v u beyond (k, inside, _) = omega arith
  no_targets (e ∷ es) zero u beyond leaves = omega arith
  no_targets (e ∷ es) (suc v) u beyond leaves = no_targets es v u (omega arith) leaves

  downward : (v u c : ℕ) → state_of (unseen (length edges)) v ≡ Done c → Contains (targets edges v) u → ⊥
  downward v u c is leaves = by_way (two_ways v (length (unseen (length edges))))
    where
      by_way : (v < length (unseen (length edges))) ⊎ (length (unseen (length edges)) ≤ v) → ⊥
      by_way (inl inside) = never_done v c (is_at (unseen (length edges)) v (Done c) inside is)
      by_way (inr beyond) = no_targets edges v u (let size : length (unseen (length edges)) ≡ length edges = length-unseen (length edges) in omega arith) leaves

  pub begins : IsWalk edges (nothing_seen edges)
  begins = record {
    sized = length-unseen (length edges);
    few = let all : count_unseen (unseen (length edges)) ≡ length edges = count_unseen-all (length edges) in omega arith;
    path = record {
      placed = λ i v at. absurd (no_place i v at);
      on_path = λ i v is. absurd (never_open v i is);
      grouped = λ i v is. absurd (never_open v i is);
    };
    groups = record {
      ordered = λ a b g h at there less. absurd (no_place a g at);
      bounded = λ a g at. absurd (no_place a g at);
    };
    done = record {
      downward = λ v u c is leaves. absurd (downward v u c is leaves);
      together = λ v u c at there. absurd (never_done v c at);
      numbered = λ v c at. absurd (never_done v c at);
    };
    leads = λ i j v u is there none. absurd (never_open v i is);
    edge = λ i v u is leaves. absurd (never_open v i is);
    source = λ k v a g at there space. absurd (no_place a g there);
    unseen = λ v is. (v, each_below (length edges) v (let inside : v < length (unseen (length edges)) = unseen_within (unseen (length edges)) v is in let size : length (unseen (length edges)) ≡ length edges = length-unseen (length edges) in omega arith));
  }

module _ (edges : List (List ℕ)) (w : Walked) (walk : IsWalk edges w) (end : is_at_end w ≡ true) where
  no_groups : length w.groups ≡ 0
  no_groups = grind (arith, nat_tests, end)

  no_pending : length w.pending ≡ 0
  no_pending = grind (arith, nat_tests, end)

  -- all are done
  pub all_done : (v : ℕ) → (c : ℕ) × (state_of w.states v ≡ Done c)
  all_done v = by_state (state_of w.states v) refl
    where
      by_place : (k : ℕ) × At w.pending k v → ⊥
      by_place (k, at) = let inside : k < length w.pending = within w.pending k v at in omega (arith, no_pending)

      by_group : (i : ℕ) → (a : ℕ) × (g : Group) × At w.groups a g × (g.start ≤ i) → ⊥
      by_group i (a, g, at, _) = let inside : a < length w.groups = within w.groups a g at in omega (arith, no_groups)

      by_state : (s : State) → state_of w.states v ≡ s → (c : ℕ) × (state_of w.states v ≡ Done c)
      by_state Unseen is = absurd (by_place (walk.unseen v is))
      by_state (Open i) is = absurd (by_group i (walk.path.grouped i v is))
      by_state (Done c) is = (c, is)

  -- no number is greater than that of what it is reached from
  falls : (v u c : ℕ) → state_of w.states v ≡ Done c → Reaches edges v u → (d : ℕ) × (state_of w.states u ≡ Done d) × (d ≤ c)
  falls v _ c is itself = (c, is, omega arith)
  falls v _ c is (further x u on edge) = by_before (falls v x c is on)
    where
      by_before : (d : ℕ) × (state_of w.states x ≡ Done d) × (d ≤ c) → (e : ℕ) × (state_of w.states u ≡ Done e) × (e ≤ c)
      by_before (d, before_is, less) = let next = walk.done.downward x u d before_is edge in (next.0, next.1, (let smaller : next.0 ≤ d = next.2 in omega arith))

  module _ (numbers : List ℕ) (numbers_are : numbers ≡ map number w.states) where
    numbered : (v c : ℕ) → At w.states v (Done c) → number_of numbers v ≡ c
    numbered v c at = ap (λ (ns : List ℕ). number_of ns v) numbers_are ∙ ap (λ (o : Option ℕ). unwrap_or o 0) (slice_get-map number w.states v ∙ ap (option_map number) at)

    record Numbered (v : ℕ) : Type 0 where
      its_number : ℕ
      at : At w.states v (Done its_number)
      is : number_of numbers v ≡ its_number

    as_numbered : (v : ℕ) → v < length edges → Numbered v
    as_numbered v inside = by_done (all_done v)
      where
        by_done : (c : ℕ) × (state_of w.states v ≡ Done c) → Numbered v
        by_done (c, is) =
            let size : length w.states ≡ length edges = walk.sized in
            let at : At w.states v (Done c) = is_at w.states v (Done c) (omega arith) is in
            record { its_number = c; at = at; is = numbered v c at }

    bounded : (v : ℕ) → Numbered v → number_of numbers v < length edges
    bounded v one =
        let less : one.its_number < length w.found = walk.done.numbered v one.its_number one.at in
        let few : length w.found + (length w.groups + count_unseen w.states) ≤ length edges = walk.few in
        omega (arith, one.is)

    same_reach : (v u : ℕ) → Numbered v → Numbered u → number_of numbers v ≡ number_of numbers u → Reaches edges v u
    same_reach v u one two same =
        let equal : two.its_number ≡ one.its_number = sym two.is ∙ (sym same ∙ one.is) in
        walk.done.together v u one.its_number one.at (subst (λ (c : ℕ). At w.states u (Done c)) equal two.at)

    no_more : (v u : ℕ) → Numbered v → Numbered u → Reaches edges v u → number_of numbers u ≤ number_of numbers v
    no_more v u one two reaches = by_end (falls v u one.its_number (at_state w.states v (Done one.its_number) one.at) reaches)
      where
        by_end : (d : ℕ) × (state_of w.states u ≡ Done d) × (d ≤ one.its_number) → number_of numbers u ≤ number_of numbers v
        by_end (d, is, less) =
            let same : Done d ≡ Done two.its_number = sym is ∙ at_state w.states u (Done two.its_number) two.at in
            let equal : d ≡ two.its_number = cc in
            omega (arith, one.is, two.is)

    same_numbers : (v u : ℕ) → Numbered v → Numbered u → (number_of numbers v ≡ number_of numbers u) ↔ (Reaches edges v u × Reaches edges u v)
    same_numbers v u one two = (λ same. (same_reach v u one two same, same_reach u v two one (sym same)), λ both. (let there : number_of numbers u ≤ number_of numbers v = no_more v u one two both.0 in let back : number_of numbers v ≤ number_of numbers u = no_more u v two one both.1 in omega arith))

    pub numbers_tell : AreComponents edges numbers
    numbers_tell = record {
      sized = ap (λ (ns : List ℕ). length ns) numbers_are ∙ (length-map w.states number ∙ walk.sized);
      bounded = λ v inside. bounded v (as_numbered v inside);
      ordered = λ v u inside within_too. no_more v u (as_numbered v inside) (as_numbered u within_too);
      same = λ v u inside within_too. same_numbers v u (as_numbered v inside) (as_numbered u within_too);
    }
